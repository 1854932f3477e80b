-- What driving a session with lines of text does.
-- A text is served to its end, or up to the first line that is neither a command nor a question, whose number, counted
-- from 1, is returned; if memory, the reader or the writer fails, a first part of the lines is served. The input stops
-- only where the reader is asked for more. The bytes of the writer have grown by what was printed, unless the writer
-- failed.
-- Read `lines_of` first (the lines of a text), then `Does` (one line), `Serves` (lines, one after another) and
-- `DrivesBytes`, which `drive` cites as `Drives`: what was served up to where it ends (`EndsAfter`), where the input
-- may stop (`MayStopAfter`), and what was written (`UnlessOutput`). The other words are for the private functions.
use Rattle.std.specs.Prelude.{◌≡◌, ℕ, ◌+◌, ◌-◌, ◌^◌, ◌<◌, ◌≤◌, Bool, List, [], ◌∷◌, ◌++◌, length, Option, None, Some, Result, Ok, Err, IfSome, position, ⊤, ◌==◌, ◌⊎◌, Vec}
use Rattle.std.specs.List.{slice_split}
use Rattle.std.specs.Io.BufRead.{take_through, drop_through, strip_last}
use Rattle.std.specs.Io.Buffered.{reader_buffer, reader_remaining}
use Rattle.std.specs.Io.KnownBytes.{Appends, Keeps, append_known, prepend_known}
use Rattle.std.specs.declared.io.buffered.BufReader.{BufReader}
use Rattle.btree_store.specs.Content.{Content}
use Rattle.btree_node.specs.declared.node.Node.{Node}
use Rattle.btree_session.specs.declared.command.Command.{Command}
use Rattle.btree_session.specs.declared.command.Reply.{Reply}
use Rattle.btree_session.specs.declared.line.Line.{Line}
use Rattle.btree_session.specs.declared.line.Line.TheVariants.{Empty, Question, Other}
use Rattle.btree_session.specs.declared.line.Line.TheVariants as line_kinds
use Rattle.btree_session.specs.declared.driver.Stop.{Stop}
use Rattle.btree_session.specs.declared.driver.Stop.TheVariants.{NotACommand, Memory, Input, Output}
use Rattle.btree_session.specs.declared.text.TheConstants.{LONGEST_LINE}
use Rattle.btree_session.specs.Answer.{IsAnswer, LacksRoomToAnswer}
use Rattle.btree_session.specs.Held.{Held}
use Rattle.btree_session.specs.Line.{line_words, MeansLine}
use Rattle.btree_session.specs.Machine.{IsStep}
use Rattle.btree_session.specs.Text.{LacksCapacityFor, Pushes, as_line, line_of}

-- a byte that ends a line
abbrev pub is_newline : ℕ → Bool
is_newline byte = byte == 10

-- the last of the parts that newlines divide, as a line unless it is empty
abbrev pub last_line : List ℕ → List (List ℕ)
last_line [] = []
last_line (byte ∷ part) = (byte ∷ part) ∷ []

-- the lines among the parts that newlines divide
abbrev pub lines_among : List (List ℕ) → List (List ℕ)
lines_among [] = []
lines_among (part ∷ []) = last_line part
lines_among (part ∷ next ∷ parts) = part ∷ lines_among (next ∷ parts)

-- the lines of a text
abbrev pub lines_of : List ℕ → List (List ℕ)
lines_of text = lines_among (slice_split is_newline text)

-- the known bytes lose their first line and its newline, and that line means `said`
pub record ReadsLine (old new : Option (List ℕ)) (said : Line) : Type 0 where
  pub line : List ℕ
  pub says : MeansLine (line_words line) said
  pub some : IfSome old (λ text. 0 < length text)
  pub first : IfSome old (λ text. line ≡ strip_last 10 (take_through 10 text))
  pub rest : IfSome old (λ text. new ≡ Some (drop_through 10 text))

-- no line ends among the bytes in a reader's buffer
abbrev pub HasNoLine : {R A : Type 0} → BufReader R A → Type 0
HasNoLine reader = position is_newline (reader_buffer reader) ≡ None

-- for a reader with these bytes still to come
module _ {R A : Type 0} (remaining : R → Option (List ℕ)) where
  -- the bytes that are still to come, if they are known: those in the reader's buffer, and those after them
  abbrev pub input_of : BufReader R A → Option (List ℕ)
  input_of reader = reader_remaining remaining reader

  -- the reader's next line was read, and means `said`
  abbrev pub TakesLine : (old new : BufReader R A) → (said : Line) → Type 0
  TakesLine old new said = ReadsLine (input_of old) (input_of new) said

-- for a writer with these bytes, and a text that is still to be written
module _ {W Z : Type 0} (contents : W → Option (List ℕ)) where
  -- the bytes written, if they are known, and the text after them
  abbrev pub output_of : W → Vec ℕ Z → Option (List ℕ)
  output_of output text = append_known (contents output) text.items

  -- what was removed from the text was written
  abbrev pub WritesOut : (output : W) (text : Vec ℕ Z) (new_output : W) (new_text : Vec ℕ Z) → Type 0
  WritesOut output text new_output new_text = Keeps (output_of output text) (output_of new_output new_text)

-- over stores that may refuse a node in these contents
module _ (MayRefuse : Content (Node ℕ ℕ) → Type 0) where
  -- What a line means was done, and `printed` was printed: for a command the reply of a step, for a question the
  -- answer, each on a line of its own. A question changes nothing.
  abbrev pub Does : (old : Held ℕ ℕ) → Line → (printed : List ℕ) → (new : Held ℕ ℕ) → Type 0
  Does old Empty printed new = (printed ≡ []) × (new ≡ old)
  Does old (line_kinds.Command command) printed new = (reply : Reply) × IsStep MayRefuse old command reply new × (printed ≡ line_of reply)
  Does old (Question question) printed new = (answer : List ℕ) × IsAnswer old.map question answer × (printed ≡ as_line answer) × (new ≡ old)
  Does old Other printed new = ⊥

  -- what a line means was done, and what that prints was appended to a text
  abbrev pub Performs : {Z : Type 0} → (old : Held ℕ ℕ) → Line → (new : Held ℕ ℕ) → (text more : Vec ℕ Z) → Type 0
  Performs old said new text more = (printed : List ℕ) × Does old said printed new × Pushes text more printed

  -- the same for a command
  abbrev pub RunsCommand : {Z : Type 0} → (old : Held ℕ ℕ) → Command → (new : Held ℕ ℕ) → (text more : Vec ℕ Z) → Type 0
  RunsCommand old command new text more = Performs old (line_kinds.Command command) new text more

  -- what the lines mean was done, one after another, and `printed` was printed
  abbrev pub Serves : (old : Held ℕ ℕ) → (lines : List (List ℕ)) → (printed : List ℕ) → (new : Held ℕ ℕ) → Type 0
  Serves old [] printed new = (printed ≡ []) × (new ≡ old)
  Serves old (line ∷ lines) printed new =
      (said : Line) × (mid : Held ℕ ℕ) × (first : List ℕ) × (rest : List ℕ)
      × MeansLine (line_words line) said × Does old said first mid × Serves mid lines rest new × (printed ≡ first ++ rest)

-- which of all lines were served, by the result: all of them, or those before the first that is neither a command nor a
-- question, or a first part of them
abbrev pub EndsAfter : {A : Type 0} → List (List ℕ) → List (List ℕ) → Result A Stop → Type 0
EndsAfter served all (Ok _) = all ≡ served
EndsAfter served all (Err (NotACommand number)) = (line : List ℕ) × (rest : List (List ℕ)) × (all ≡ served ++ line ∷ rest) × MeansLine (line_words line) Other × (number ≡ length served + 1)
EndsAfter served all (Err Memory) = (rest : List (List ℕ)) × (all ≡ served ++ rest)
EndsAfter served all (Err Input) = (rest : List (List ℕ)) × (all ≡ served ++ rest)
EndsAfter served all (Err Output) = (rest : List (List ℕ)) × (all ≡ served ++ rest)

-- of the bytes that are left, the reader had given those ahead, in which no line ends, and it was asked for more
pub record AsksForMore {R : Type 0} (remaining : R → Option (List ℕ)) (left : List ℕ) : Type 0 where
  pub reader : R
  pub ahead : List ℕ
  pub no_line : position is_newline ahead ≡ None
  pub known : prepend_known ahead (remaining reader) ≡ Some left

-- so many lines were served that no number for the next one is left
abbrev pub AreMostLines : List (List ℕ) → Type 0
AreMostLines served = 2 ^ 64 - 2 ≤ length served

-- after these lines of a text the input may stop: the reader is asked for more, or no number is left
abbrev pub MayStopAfter : {R : Type 0} → (R → Option (List ℕ)) → (text : List ℕ) → (served : List (List ℕ)) → Type 0
MayStopAfter remaining text served =
    AreMostLines served ⊎ (left : List ℕ) × (lines_of text ≡ served ++ lines_of left) × AsksForMore remaining left

-- this holds, if the input stopped
abbrev pub IfInput : {A : Type 0} → Result A Stop → Type 0 → Type 0
IfInput (Ok _) Holds = ⊤
IfInput (Err (NotACommand number)) Holds = ⊤
IfInput (Err Memory) Holds = ⊤
IfInput (Err Input) Holds = Holds
IfInput (Err Output) Holds = ⊤

-- this holds, unless the writer failed
abbrev pub UnlessOutput : {A : Type 0} → Result A Stop → Type 0 → Type 0
UnlessOutput (Ok _) Holds = Holds
UnlessOutput (Err (NotACommand number)) Holds = Holds
UnlessOutput (Err Memory) Holds = Holds
UnlessOutput (Err Input) Holds = Holds
UnlessOutput (Err Output) Holds = ⊤

-- a stop that may occur at any line
abbrev pub MayStopAnywhere : Stop → Type 0
MayStopAnywhere (NotACommand number) = ⊥
MayStopAnywhere Memory = Unit {0}
MayStopAnywhere Input = Unit {0}
MayStopAnywhere Output = Unit {0}

-- a text without room for what the line prints
abbrev pub LacksRoomAt : {Z : Type 0} → (old : Held ℕ ℕ) → Line → (text : Vec ℕ Z) → Type 0
LacksRoomAt old Empty text = ⊥
LacksRoomAt old (line_kinds.Command command) text = LacksCapacityFor text LONGEST_LINE
LacksRoomAt old (Question question) text = LacksRoomToAnswer old.map question text
LacksRoomAt old Other text = ⊥

-- why the line with a number was not served: memory for what it prints was refused, or it is neither a command nor a
-- question
abbrev pub StopsAt : {Z : Type 0} → (old : Held ℕ ℕ) → (said : Line) → (text : Vec ℕ Z) → (number : ℕ) → Stop → Type 0
StopsAt old said text number stop = ((stop ≡ Memory) × LacksRoomAt old said text) ⊎ ((stop ≡ NotACommand number) × (said ≡ Other))

-- Lines of the input were served, and what they print was written. If the bytes of the input are known, the lines are
-- theirs.
pub record DrivesBytes {A R : Type 0} (MayRefuse : Content (Node ℕ ℕ) → Type 0) (remaining : R → Option (List ℕ)) (old : Held ℕ ℕ) (input before : Option (List ℕ)) (result : Result A Stop) (after : Option (List ℕ)) (new : Held ℕ ℕ) : Type 0 where
  pub lines : List (List ℕ)
  pub known : IfSome input (λ text. lines ≡ lines_of text)
  pub served : List (List ℕ)
  pub ends : EndsAfter served lines result
  pub stops : IfInput result (IfSome input (λ text. MayStopAfter remaining text served))
  pub printed : List ℕ
  pub serves : Serves MayRefuse old served printed new
  pub writes : UnlessOutput result (Appends before after printed)

module _ {A R W : Type 0} (MayRefuse : Content (Node ℕ ℕ) → Type 0) (remaining : R → Option (List ℕ)) (contents : W → Option (List ℕ)) where
  -- the same of a reader and a writer
  abbrev pub Drives : (old : Held ℕ ℕ) → (input : R) → (output : W) → Result A Stop → (new_output : W) → (new : Held ℕ ℕ) → Type 0
  Drives old input output result new_output new =
      DrivesBytes MayRefuse remaining old (remaining input) (contents output) result (contents new_output) new

  -- the same of a reader with a buffer, and a writer with a text that is still to be written
  abbrev pub DrivesBuffered : {B Z : Type 0} → (old : Held ℕ ℕ) → BufReader R B → W → Vec ℕ Z → Result A Stop → (new_output : W) → (more : Vec ℕ Z) → (new : Held ℕ ℕ) → Type 0
  DrivesBuffered old reader output text result new_output more new =
      DrivesBytes MayRefuse remaining old (input_of remaining reader) (output_of contents output text) result (output_of contents new_output more) new
