-- What a line of text means.
-- Read `line_words` first: the words of a line, which one or more spaces divide. Then `IsNumber`: a word of decimal
-- digits below 2^64. Then what a line means: a command (`MeansCommand`: a name and numbers), a question (`IsQuestion`:
-- a name alone), and over both `MeansLine`: nothing, a command, a question, or something else. `parse` in `src/line.rt`
-- ensures `MeansLine`, and the contract of `drive` cites it through `Drives` (`Script.antt`). `SomeIfAny`, `words_of`,
-- `Says` and the others are for the private functions that read a word, a number or a call.
use Rattle.std.specs.Prelude.{◌≡◌, ◌≢◌, ℕ, ◌^◌, ◌<◌, Bool, List, [], ◌∷◌, length, filter, nat_lt, ◌==◌, Option, Some, None, codes}
use Rattle.std.specs.List.{slice_split}
use Rattle.std.specs.Io.BufRead.{strip_last}
use Rattle.std.specs.Str.Parse.{IsNumeral, digits_value}
use Rattle.btree_session.specs.declared.command.Command.{Command}
use Rattle.btree_session.specs.declared.command.Command.TheVariants.{Insert, Get, Remove, Clear, Seek, Next, Prev, Put, Take}
use Rattle.btree_session.specs.declared.line.Line.{Line}
use Rattle.btree_session.specs.declared.line.Numbers.{Numbers}
use Rattle.btree_session.specs.declared.line.Numbers.TheVariants.{Zero, One, Two}
use Rattle.btree_session.specs.declared.question.Question.{Question}
use Rattle.btree_session.specs.declared.question.Question.TheVariants as questions
use Rattle.btree_session.specs.declared.line.Line.TheVariants as lines

-- a value with this property, or `None` if no value has it
abbrev pub SomeIfAny : {A : Type 0} → (A → Type 0) → Option A → Type 0
SomeIfAny IsSo (Some x) = IsSo x
SomeIfAny {A} IsSo None = (x : A) → IsSo x → ⊥

-- only a space divides words
abbrev pub is_space : ℕ → Bool
is_space byte = byte == 32

-- the parts that one or more spaces divide
abbrev pub words_of : List ℕ → List (List ℕ)
words_of text = filter (λ word. nat_lt 0 (length word)) (slice_split is_space text)

-- the words of a line; a carriage return as its last byte is dropped
abbrev pub line_words : List ℕ → List (List ℕ)
line_words line = words_of (strip_last 13 line)

-- the word is this number in decimal digits, and the number fits in 64 bits
pub record IsNumber (number : ℕ) (word : List ℕ) : Type 0 where
  pub numeral : IsNumeral 10 word
  pub value : digits_value 10 word ≡ number
  pub is_u64 : number < 2 ^ 64

-- the words are these numbers, one after another
abbrev pub AreNumbers : List ℕ → List (List ℕ) → Type 0
AreNumbers [] [] = Unit {0}
AreNumbers (number ∷ numbers) (word ∷ words) = IsNumber number word × AreNumbers numbers words
AreNumbers [] (word ∷ words) = ⊥
AreNumbers (number ∷ numbers) [] = ⊥

-- the words are a name, and then these numbers
abbrev pub IsCall : List ℕ → List ℕ → List (List ℕ) → Type 0
IsCall name numbers [] = ⊥
IsCall name numbers (word ∷ words) = (word ≡ name) × AreNumbers numbers words

-- the name of a command
abbrev pub command_name : Command → List ℕ
command_name (Insert key value) = codes "insert"
command_name (Get key) = codes "get"
command_name (Remove key) = codes "remove"
command_name Clear = codes "clear"
command_name (Seek key) = codes "seek"
command_name Next = codes "next"
command_name Prev = codes "prev"
command_name (Put key value) = codes "put"
command_name Take = codes "take"

-- the numbers after the name of a command
abbrev pub command_numbers : Command → List ℕ
command_numbers (Insert key value) = key ∷ value ∷ []
command_numbers (Get key) = key ∷ []
command_numbers (Remove key) = key ∷ []
command_numbers Clear = []
command_numbers (Seek key) = key ∷ []
command_numbers Next = []
command_numbers Prev = []
command_numbers (Put key value) = key ∷ value ∷ []
command_numbers Take = []

-- the words mean the command
abbrev pub MeansCommand : List (List ℕ) → Command → Type 0
MeansCommand words said = IsCall (command_name said) (command_numbers said) words

-- the name of a question
abbrev pub name_of : Question → List ℕ
name_of questions.List = codes "list"
name_of questions.Len = codes "len"
name_of questions.Nodes = codes "nodes"
name_of questions.Shape = codes "shape"

-- the words mean the question: they are its name alone
abbrev pub IsQuestion : List (List ℕ) → Question → Type 0
IsQuestion words question = words ≡ name_of question ∷ []

-- a line with these words means this: nothing, a command, a question, or something else
abbrev pub MeansLine : List (List ℕ) → Line → Type 0
MeansLine words lines.Empty = words ≡ []
MeansLine words (lines.Command said) = MeansCommand words said
MeansLine words (lines.Question asked) = IsQuestion words asked
MeansLine words lines.Other = (words ≢ []) × ((said : Command) → MeansCommand words said → ⊥) × ((asked : Question) → IsQuestion words asked → ⊥)

-- the numbers after a name
abbrev pub number_list : Numbers → List ℕ
number_list Zero = []
number_list (One n) = n ∷ []
number_list (Two m n) = m ∷ n ∷ []

-- a name, with these numbers after it, says this
abbrev pub Says : (name : List ℕ) → (numbers : List ℕ) → Line → Type 0
Says name numbers lines.Empty = ⊥
Says name numbers (lines.Command said) = (name ≡ command_name said) × (numbers ≡ command_numbers said)
Says name numbers (lines.Question asked) = (name ≡ name_of asked) × (numbers ≡ [])
Says name numbers lines.Other =
    ((said : Command) → name ≡ command_name said → numbers ≡ command_numbers said → ⊥) × ((asked : Question) → name ≡ name_of asked → numbers ≡ [] → ⊥)
