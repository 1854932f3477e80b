-- An iterator from both ends: what it has left is the beginning of one list and the end of another.
use Rattle.std.specs.Prelude.{◌≡◌, ℕ, List, ◌++◌, length, take}

-- the first `left` elements of what is ahead of the front are the last ones of what is behind the back
pub record AreEnds {A : Type 0} (left : ℕ) (ahead behind : List A) : Type 0 where
  pub after : List A
  pub before : List A
  pub front : ahead ≡ take left ahead ++ after
  pub back : behind ≡ before ++ take left ahead
  pub counted : left ≡ length (take left ahead)
