-- The printed text of a reply, and vectors and texts that grow.
-- `reply_text` is the text of a reply, as in the table in docs/PROGRAM.md; `Display` of `Reply` prints it. `line_of` is the
-- same on a line of its own. `Pushes` and `Grows` say what was appended to a vector or a text; `run` cites `Pushes` by
-- `Runs` (`Machine.antt`), and `HasCapacityFor` for the vector of replies. `as_line` is for the answers to questions
-- too (`Answer.antt`). `LacksRoomFor` says when a text of answers has to grow.
use Rattle.std.specs.Prelude.{◌≡◌, ℕ, ◌+◌, ◌<◌, ◌≤◌, List, [], ◌∷◌, ◌++◌, length, Vec, vec_len, vec_capacity, codes}
use Rattle.std.specs.Fmt.{decimal}
use Rattle.btree_item.specs.declared.refused.Cause.{Cause}
use Rattle.btree_item.specs.declared.refused.Cause.TheVariants.{Store, Count}
use Rattle.btree_session.specs.declared.command.Reply.{Reply}
use Rattle.btree_session.specs.declared.command.Reply.TheVariants.{Nothing, Value, Pair, Done, Found, Gap, NoPlace, Unfit, Refused}
use Rattle.btree_session.specs.declared.text.TheConstants.{LONGEST_LINE}

-- the text of a cause
abbrev pub cause_text : Cause → List ℕ
cause_text Store = codes "store"
cause_text Count = codes "count"

-- the text of a reply
abbrev pub reply_text : Reply → List ℕ
reply_text Nothing = codes "none"
reply_text (Value value) = codes "some " ++ decimal value
reply_text (Pair key value) = codes "pair " ++ decimal key ++ codes " " ++ decimal value
reply_text Done = codes "ok"
reply_text (Found value) = codes "found " ++ decimal value
reply_text Gap = codes "gap"
reply_text NoPlace = codes "no place"
reply_text Unfit = codes "unfit"
reply_text (Refused cause) = codes "refused " ++ cause_text cause

-- a vector with these values appended
abbrev pub Pushes : {X Z : Type 0} → (old new : Vec X Z) → List X → Type 0
Pushes old new more = new.items ≡ old.items ++ more

-- a vector that can hold `count` more values without more memory
abbrev pub HasCapacityFor : {X Z : Type 0} → Vec X Z → ℕ → Type 0
HasCapacityFor values count = vec_len values + count ≤ vec_capacity values

-- a vector that cannot
abbrev pub LacksCapacityFor : {X Z : Type 0} → Vec X Z → ℕ → Type 0
LacksCapacityFor values count = vec_capacity values < vec_len values + count

-- a text without capacity for these bytes and as many more as the longest line of a reply has
abbrev pub LacksRoomFor : {Z : Type 0} → (text : Vec ℕ Z) → List ℕ → Type 0
LacksRoomFor text bytes = LacksCapacityFor text (length bytes + LONGEST_LINE)

-- a text with something appended
abbrev pub Grows : (old new : List ℕ) → Type 0
Grows old new = (added : List ℕ) × (new ≡ old ++ added)

-- a text on a line of its own
abbrev pub as_line : List ℕ → List ℕ
as_line text = text ++ 10 ∷ []

-- a reply on a line of its own
abbrev pub line_of : Reply → List ℕ
line_of reply = as_line (reply_text reply)
