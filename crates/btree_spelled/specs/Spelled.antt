-- What bytes are, and what it is to read a value from the front of them.
use Rattle.std.specs.Prelude.{◌≡◌, ℕ, ◌<◌, List, ◌++◌, Option, Some, slice_index}

-- each of these numbers fits a byte
abbrev pub AreBytes : List ℕ → Type 0
AreBytes bytes = (i : ℕ) → slice_index bytes i < 256

-- the value that bytes begin with and the bytes after it, if there is one
abbrev pub Read : Type 0 → Type 0
Read X = List ℕ → Option (X × List ℕ)

-- a value that is read has the bytes that it was read from
abbrev pub Takes : {X : Type 0} → (X → List ℕ) → Read X → Type 0
Takes {X} spell read = (bytes rest : List ℕ) (x : X) → AreBytes bytes → read bytes ≡ Some (x, rest) → bytes ≡ spell x ++ rest
