-- What a full cache keeps.
use Rattle.std.specs.Prelude.{List, Option, Some, None, drop}

-- the pairs without the first one, if a pair was taken out
abbrev pub without_first_if : {X : Type 0} → (gone : Option X) → List X → List X
without_first_if None pairs = pairs
without_first_if (Some x) pairs = drop 1 pairs
