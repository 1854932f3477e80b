-- Lines served one after another.
use Rattle.btree_session.proofs.Common.{◌≡◌, ℕ, ◌+◌, ◌<◌, List, [], ◌∷◌, ◌++◌, take, drop, length, Option, Some, None, Bool, true, false, cond, inl, inr, refl, sym, ap, ◌∙◌, arith, append_assoc, append-nil, length-append, Held, MeansLine, Content, Node}
use Rattle.std.proofs.Common.{add-one, IfSome, Result, Ok, Err, Vec}
use Rattle.std.specs.Prelude.{position, ◌==◌}
use Rattle.std.proofs.lemmas.List.Quantifiers.{position-Some}
use Rattle.std.specs.Io.BufRead.{take_through, drop_through, strip_last, DropsConsumable, DropsThrough}
use Rattle.std.specs.Io.KnownBytes.{Appends, Keeps, append_known, prepend_known}
use Rattle.std.specs.Io.Buffered.{reader_buffer, reader_capacity}
use Rattle.std.specs.declared.io.buffered.BufReader.{BufReader}
use Rattle.btree_session.specs.declared.line.Line.{Line}
use Rattle.btree_session.specs.declared.line.Line.TheVariants.{Other}
use Rattle.btree_session.specs.declared.driver.Stop.{Stop}
use Rattle.btree_session.specs.declared.driver.Stop.TheVariants.{NotACommand, Memory, Input, Output}
use Rattle.btree_session.specs.Line.{line_words}
use Rattle.btree_session.specs.Script.{AreMostLines, DrivesBytes, HasNoLine, IfInput, MayStopAfter, input_of, is_newline, lines_of, MayStopAnywhere, Does, EndsAfter, ReadsLine, Serves, StopsAt, UnlessOutput}
use Rattle.btree_session.proofs.Lines.{lines_of-cons, cut_at_newline}

-- more lines are served
Serves-append : (May : Content (Node ℕ ℕ) → Type 0) (old mid new : Held ℕ ℕ) (lines more : List (List ℕ)) (first second : List ℕ) → Serves May old lines first mid → Serves May mid more second new → Serves May old (lines ++ more) (first ++ second) new
Serves-append May old mid new [] more first second served next =
    let none : first ≡ [] = served.0 in let same : mid ≡ old = served.1 in rw (none, ← same) next
Serves-append May old mid new (line ∷ lines) more first second served next = (
  served.0,
  served.1,
  served.2,
  served.3 ++ second,
  served.4,
  served.5,
  Serves-append May served.1 mid new lines more served.3 second served.6 next,
  ap (λ text. text ++ second) served.7 ∙ append_assoc served.2 served.3 second,
)

-- one line is served
Serves-one : (May : Content (Node ℕ ℕ) → Type 0) (old new : Held ℕ ℕ) (line : List ℕ) (said : Line) (printed : List ℕ) → MeansLine (line_words line) said → Does May old said printed new → Serves May old (line ∷ []) printed new
Serves-one May old new line said printed says does = (said, new, printed, [], says, does, (refl, refl), sym (append-nil printed))

-- the progress so far
pub record Progress (May : Content (Node ℕ ℕ) → Type 0) (old : Held ℕ ℕ) (input before rest after : Option (List ℕ)) (new : Held ℕ ℕ) (number : ℕ) : Type 0 where
  pub served : List (List ℕ)
  pub printed : List ℕ
  pub serves : Serves May old served printed new
  pub writes : Appends before after printed
  pub known : IfSome input (λ text. (left : List ℕ) × (rest ≡ Some left) × (lines_of text ≡ served ++ lines_of left))
  pub count : number ≡ length served + 1

Appends-none : (known : Option (List ℕ)) → Appends known known []
Appends-none None = tt
Appends-none (Some xs) = sym (append-nil xs)

-- at the start
pub begun : (May : Content (Node ℕ ℕ) → Type 0) (old : Held ℕ ℕ) (input before : Option (List ℕ)) → Progress May old input before input before old 1
begun May old input before = record {
  served = [];
  printed = [];
  serves = (refl, refl);
  writes = Appends-none before;
  known = at input;
  count = refl;
} where
  at : (input : Option (List ℕ)) → IfSome input (λ text. (left : List ℕ) × (input ≡ Some left) × (lines_of text ≡ lines_of left))
  at None = tt
  at (Some text) = (text, refl, refl)

Appends-keeps : (before between after : Option (List ℕ)) (bytes : List ℕ) → Appends before between bytes → Keeps between after → Appends before after bytes
Appends-keeps None between after bytes appends keeps = tt
Appends-keeps (Some xs) None after bytes appends keeps = absurd appends
Appends-keeps (Some xs) (Some ys) None bytes appends keeps = absurd keeps
Appends-keeps (Some xs) (Some ys) (Some zs) bytes appends keeps = keeps ∙ appends

-- some of the text was written out
pub written : (May : Content (Node ℕ ℕ) → Type 0) (old new : Held ℕ ℕ) (input before rest between after : Option (List ℕ)) (number : ℕ) →
    Progress May old input before rest between new number → Keeps between after → Progress May old input before rest after new number
written May old new input before rest between after number so_far keeps = record {
  served = so_far.served;
  printed = so_far.printed;
  serves = so_far.serves;
  writes = Appends-keeps before between after so_far.printed so_far.writes keeps;
  known = so_far.known;
  count = so_far.count;
}

-- the lines of the input, of which some were served
pub record Lines (input : Option (List ℕ)) (served more : List (List ℕ)) : Type 0 where
  pub lines : List (List ℕ)
  pub known : IfSome input (λ text. lines ≡ lines_of text)
  pub are : lines ≡ served ++ more

some_lines : (input rest : Option (List ℕ)) (served : List (List ℕ)) → IfSome input (λ text. (left : List ℕ) × (rest ≡ Some left) × (lines_of text ≡ served ++ lines_of left))
    → (more : List (List ℕ)) × Lines input served more
some_lines None rest served known = ([], record { lines = served ++ []; known = tt; are = refl })
some_lines (Some text) rest served known = (lines_of known.0, record { lines = lines_of text; known = refl; are = known.2 })

these_lines : (input rest : Option (List ℕ)) (served more : List (List ℕ)) → IfSome input (λ text. (left : List ℕ) × (rest ≡ Some left) × (lines_of text ≡ served ++ lines_of left))
    → IfSome rest (λ left. lines_of left ≡ more) → Lines input served more
these_lines None rest served more known left_is = record { lines = served ++ more; known = tt; are = refl }
these_lines (Some text) None served more known left_is = cc
these_lines (Some text) (Some left) served more known left_is =
    let same : left ≡ known.0 = cc in
    record { lines = lines_of text; known = refl; are = known.2 ∙ ap (λ ls. served ++ lines_of ls) (sym same) ∙ ap (λ ls. served ++ ls) left_is }

ends_anywhere : (A : Type 0) (served lines : List (List ℕ)) (stop : Stop) → MayStopAnywhere stop → (rest : List (List ℕ)) × (lines ≡ served ++ rest) → EndsAfter {A = A} served lines (Err stop)
ends_anywhere A served lines (NotACommand number) anywhere rest = absurd anywhere
ends_anywhere A served lines Memory anywhere rest = rest
ends_anywhere A served lines Input anywhere rest = rest
ends_anywhere A served lines Output anywhere rest = rest

-- what holds in any case
pub anyway : {A : Type 0} (P : Type 0) (result : Result A Stop) → P → UnlessOutput result P
anyway P (Ok _) p = p
anyway P (Err (NotACommand number)) p = p
anyway P (Err Memory) p = p
anyway P (Err Input) p = p
anyway P (Err Output) p = tt

-- it stops between two lines
pub stopped : {A R : Type 0} (remaining : R → Option (List ℕ)) (May : Content (Node ℕ ℕ) → Type 0) (old new : Held ℕ ℕ) (input before rest after : Option (List ℕ)) (number : ℕ) (stop : Stop) →
    (so_far : Progress May old input before rest after new number) → MayStopAnywhere stop
    → IfInput {A = A} (Err stop) (IfSome input (λ text. MayStopAfter remaining text so_far.served)) → DrivesBytes {A = A} May remaining old input before (Err stop) after new
stopped {A} remaining May old new input before rest after number stop so_far anywhere may =
    let all = some_lines input rest so_far.served so_far.known in
    record {
      lines = all.1.lines;
      known = all.1.known;
      served = so_far.served;
      ends = ends_anywhere A so_far.served all.1.lines stop anywhere (all.0, all.1.are);
      stops = may;
      printed = so_far.printed;
      serves = so_far.serves;
      writes = anyway {A = A} (Appends before after so_far.printed) (Err stop) so_far.writes;
    }

-- the writer fails
pub failed : {A R : Type 0} (remaining : R → Option (List ℕ)) (May : Content (Node ℕ ℕ) → Type 0) (old new : Held ℕ ℕ) (input before rest between after : Option (List ℕ)) (number : ℕ) →
    Progress May old input before rest between new number → DrivesBytes {A = A} May remaining old input before (Err Output) after new
failed remaining May old new input before rest between after number so_far =
    let all = some_lines input rest so_far.served so_far.known in
    record {
      lines = all.1.lines;
      known = all.1.known;
      served = so_far.served;
      ends = (all.0, all.1.are);
      stops = tt;
      printed = so_far.printed;
      serves = so_far.serves;
      writes = tt;
    }

-- more is asked of a reader that has no line in its buffer
asks : {R Z : Type 0} (remaining : R → Option (List ℕ)) (input : Option (List ℕ)) (reader : BufReader R Z) (served : List (List ℕ))
    → IfSome input (λ text. (left : List ℕ) × (input_of remaining reader ≡ Some left) × (lines_of text ≡ served ++ lines_of left)) → HasNoLine reader
    → IfSome input (λ text. MayStopAfter remaining text served)
asks remaining None reader served known none = tt
asks remaining (Some text) reader served known none = inr (
  known.0,
  known.2,
  record {
    reader = reader.inner;
    ahead = reader_buffer reader;
    no_line = none;
    known = buffered (reader_capacity reader == 0) known.1;
  },
) where
  buffered : (b : Bool) → cond b None (prepend_known (reader_buffer reader) (remaining reader.inner)) ≡ Some known.0 → prepend_known (reader_buffer reader) (remaining reader.inner) ≡ Some known.0
  buffered true is = absurd (cc)
  buffered false is = is

-- no more lines are counted
pub most : {R : Type 0} (remaining : R → Option (List ℕ)) (input : Option (List ℕ)) (served : List (List ℕ)) → AreMostLines served → IfSome input (λ text. MayStopAfter remaining text served)
most remaining None served are = tt
most remaining (Some text) served are = inl are

-- it stops while it reads the next line
pub between_lines : {A R Z : Type 0} (remaining : R → Option (List ℕ)) (May : Content (Node ℕ ℕ) → Type 0) (old new : Held ℕ ℕ) (input before : Option (List ℕ)) (reader : BufReader R Z) (between after : Option (List ℕ)) (number : ℕ) (stop : Stop) →
    Progress May old input before (input_of remaining reader) between new number → MayStopAnywhere stop → UnlessOutput {A = A} (Err stop) (Keeps between after)
    → IfInput {A = A} (Err stop) (HasNoLine reader) → DrivesBytes {A = A} May remaining old input before (Err stop) after new
unfolding written
between_lines remaining May old new input before reader between after number (NotACommand at) so_far anywhere keeps none = absurd anywhere
between_lines remaining May old new input before reader between after number Memory so_far anywhere keeps none =
    stopped remaining May old new input before (input_of remaining reader) after number Memory (written May old new input before (input_of remaining reader) between after number so_far keeps) tt tt
between_lines remaining May old new input before reader between after number Input so_far anywhere keeps none =
    stopped remaining May old new input before (input_of remaining reader) after number Input (written May old new input before (input_of remaining reader) between after number so_far keeps) tt
    (asks remaining input reader so_far.served so_far.known none)
between_lines remaining May old new input before reader between after number Output so_far anywhere keeps none = failed remaining May old new input before (input_of remaining reader) between after number so_far

first_line : (rest next : Option (List ℕ)) (said : Line) (reads : ReadsLine rest next said) → (more : List (List ℕ)) × IfSome rest (λ left. lines_of left ≡ reads.line ∷ more)
first_line rest next said reads = at rest reads.some reads.first where
  at : (rest : Option (List ℕ)) → IfSome rest (λ left. 0 < length left) → IfSome rest (λ left. reads.line ≡ strip_last 10 (take_through 10 left))
      → (more : List (List ℕ)) × IfSome rest (λ left. lines_of left ≡ reads.line ∷ more)
  at None some first = ([], tt)
  at (Some left) some first = (lines_of (drop_through 10 left), lines_of-cons left some ∙ ap (λ line. line ∷ lines_of (drop_through 10 left)) (sym first))

-- the next line is not a command
pub not_a_command : {A R : Type 0} (remaining : R → Option (List ℕ)) (May : Content (Node ℕ ℕ) → Type 0) (old new : Held ℕ ℕ) (input before rest next after : Option (List ℕ)) (number : ℕ) →
    Progress May old input before rest after new number → ReadsLine rest next Other → DrivesBytes {A = A} May remaining old input before (Err (NotACommand number)) after new
not_a_command remaining May old new input before rest next after number so_far reads =
    let first = first_line rest next Other reads in
    let all = these_lines input rest so_far.served (reads.line ∷ first.0) so_far.known first.1 in
    record {
      lines = all.lines;
      known = all.known;
      served = so_far.served;
      ends = (reads.line, first.0, all.are, reads.says, so_far.count);
      stops = tt;
      printed = so_far.printed;
      serves = so_far.serves;
      writes = so_far.writes;
    }

-- it stops at the next line
pub at_line : {A R Z : Type 0} (remaining : R → Option (List ℕ)) (May : Content (Node ℕ ℕ) → Type 0) (old new : Held ℕ ℕ) (input before rest next after : Option (List ℕ)) (number : ℕ) (said : Line) (text : Vec ℕ Z) (stop : Stop) →
    Progress May old input before rest after new number → ReadsLine rest next said
    → StopsAt new said text number stop → DrivesBytes {A = A} May remaining old input before (Err stop) after new
at_line remaining May old new input before rest next after number said text stop so_far reads cause = elim cause [
  | inl memory ↦ rw memory.0 (stopped remaining May old new input before rest after number Memory so_far tt tt)
  | inr other ↦ rw other.0 (not_a_command remaining May old new input before rest next after number so_far (rw other.1 at reads))
]

Appends-append : (before between after : Option (List ℕ)) (first second : List ℕ) → Appends before between first → Appends between after second → Appends before after (first ++ second)
Appends-append None between after first second one two = tt
Appends-append (Some xs) None after first second one two = absurd one
Appends-append (Some xs) (Some ys) None first second one two = absurd two
Appends-append (Some xs) (Some ys) (Some zs) first second one two = two ∙ ap (λ bytes. bytes ++ second) one ∙ append_assoc xs first second

-- text after known bytes grows
pub append_known-grows : (known : Option (List ℕ)) (text more added : List ℕ) → more ≡ text ++ added → Appends (append_known known text) (append_known known more) added
append_known-grows None text more added is = tt
append_known-grows (Some xs) text more added is = ap (λ bytes. xs ++ bytes) is ∙ sym (append_assoc xs text added)

left_behind : (input rest next : Option (List ℕ)) (served : List (List ℕ)) (line : List ℕ)
    → IfSome input (λ text. (left : List ℕ) × (rest ≡ Some left) × (lines_of text ≡ served ++ lines_of left))
    → IfSome rest (λ left. 0 < length left) → IfSome rest (λ left. line ≡ strip_last 10 (take_through 10 left)) → IfSome rest (λ left. next ≡ Some (drop_through 10 left))
    → IfSome input (λ text. (left : List ℕ) × (next ≡ Some left) × (lines_of text ≡ (served ++ line ∷ []) ++ lines_of left))
left_behind None rest next served line known some first dropped = tt
left_behind (Some text) None next served line known some first dropped = cc
left_behind (Some text) (Some left) next served line known some first dropped =
    let same : known.0 ≡ left = cc in (
      drop_through 10 left,
      dropped,
      known.2 ∙ ap (λ bytes. served ++ lines_of bytes) same
          ∙ ap (λ lines. served ++ lines) (lines_of-cons left some ∙ ap (λ is. is ∷ lines_of (drop_through 10 left)) (sym first))
          ∙ sym (append_assoc served (line ∷ []) (lines_of (drop_through 10 left))),
    )

-- one more line is served
pub goes_on : (May : Content (Node ℕ ℕ) → Type 0) (old mid new : Held ℕ ℕ) (input before rest next between after : Option (List ℕ)) (number : ℕ) (said : Line) (reads : ReadsLine rest next said) (printed : List ℕ) →
    Progress May old input before rest between mid number → Does May mid said printed new → Appends between after printed → Progress May old input before next after new (number + 1)
goes_on May old mid new input before rest next between after number said reads printed so_far does writes = record {
  served = so_far.served ++ reads.line ∷ [];
  printed = so_far.printed ++ printed;
  serves = Serves-append May old mid new so_far.served (reads.line ∷ []) so_far.printed printed so_far.serves (Serves-one May mid new reads.line said printed reads.says does);
  writes = Appends-append before between after so_far.printed printed so_far.writes writes;
  known = left_behind input rest next so_far.served reads.line so_far.known reads.some reads.first reads.rest;
  count = omega (arith, so_far.count, length-append so_far.served (reads.line ∷ []));
}

-- a line at the front of known bytes
pub in_buffer : (known next : Option (List ℕ)) (buffer : List ℕ) (len : ℕ) (said : Line) → position is_newline buffer ≡ Some len → MeansLine (line_words (take len buffer)) said
    → DropsConsumable (prepend_known buffer known) next (Some (length buffer)) (len + 1) → ReadsLine (prepend_known buffer known) next said
in_buffer None next buffer len said place says drops = record { line = take len buffer; says = says; some = tt; first = tt; rest = tt }
in_buffer (Some behind) next buffer len said place says drops =
    let at = position-Some is_newline buffer len 0 place in
    let cut = cut_at_newline buffer behind len at.0 at.1 at.2 in
    record {
      line = take len buffer;
      says = says;
      some = omega (arith, length-append buffer behind, at.0);
      first = cut.0;
      rest = drops (omega (arith, at.0)) ∙ ap (λ n. Some (drop n (buffer ++ behind))) (add-one len) ∙ ap (λ left. Some left) cut.1;
    }

-- the same for the bytes of a reader, which are not known if it has no buffer
pub in_reader : (has_none : Bool) (known next : Option (List ℕ)) (buffer : List ℕ) (len : ℕ) (said : Line) → position is_newline buffer ≡ Some len → MeansLine (line_words (take len buffer)) said
    → DropsConsumable (cond has_none None (prepend_known buffer known)) next (Some (length buffer)) (len + 1) → ReadsLine (cond has_none None (prepend_known buffer known)) next said
in_reader true known next buffer len said place says drops = record { line = take len buffer; says = says; some = tt; first = tt; rest = tt }
in_reader false known next buffer len said place says drops = in_buffer known next buffer len said place says drops

-- a line that `read_until` has read
pub read_through : (old new : Option (List ℕ)) (line : List ℕ) (said : Line) → IfSome old (λ text. line ≡ take_through 10 text) → DropsThrough old new 10 → 0 < length line
    → MeansLine (line_words (strip_last 10 line)) said → ReadsLine old new said
read_through None new line said taken dropped some says = record { line = strip_last 10 line; says = says; some = tt; first = tt; rest = tt }
read_through (Some text) new line said taken dropped some says = record {
  line = strip_last 10 line;
  says = says;
  some = has_bytes text (omega (arith, ap length taken));
  first = ap (strip_last 10) taken;
  rest = dropped;
} where
  has_bytes : (text : List ℕ) → 0 < length (take_through 10 text) → 0 < length text
  has_bytes [] some = some
  has_bytes (byte ∷ text) some = omega arith
