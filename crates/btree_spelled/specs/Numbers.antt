-- Numbers, booleans and characters as bytes: the greatest byte first.
use Rattle.std.specs.Prelude.{ℕ, zero, suc, Bool, true, false, List, [], ◌∷◌, length, take, drop, Some, None, nat_lt, if◌then◌else◌}
use Rattle.std.specs.Int.{Width, byte_len, to_be_bytes, from_be_bytes}
use Rattle.btree_spelled.specs.Spelled.{Read}

abbrev pub byte_bytes : ℕ → List ℕ
byte_bytes n = n ∷ []

unfoldable pub byte_read : Read ℕ
byte_read [] = None
byte_read (n ∷ rest) = Some (n, rest)

abbrev pub number_bytes : Width → ℕ → List ℕ
number_bytes w n = to_be_bytes w n

unfoldable pub number_read : Width → Read ℕ
number_read w bytes =
    if nat_lt (length bytes) (byte_len w) then None else Some (from_be_bytes w (take (byte_len w) bytes), drop (byte_len w) bytes)

abbrev pub bool_bytes : Bool → List ℕ
bool_bytes false = 0 ∷ []
bool_bytes true = 1 ∷ []

unfoldable pub bool_read : Read Bool
bool_read [] = None
bool_read (zero ∷ rest) = Some (false, rest)
bool_read (suc zero ∷ rest) = Some (true, rest)
bool_read (suc (suc n) ∷ rest) = None

-- nothing has no bytes
abbrev pub unit_bytes : Unit {0} → List ℕ
unit_bytes x = []

unfoldable pub unit_read : Read (Unit {0})
unit_read bytes = Some (tt, bytes)

-- an array of bytes is those bytes
abbrev pub array_bytes : List ℕ → List ℕ
array_bytes xs = xs

unfoldable pub array_read : ℕ → Read (List ℕ)
array_read n bytes = if nat_lt (length bytes) n then None else Some (take n bytes, drop n bytes)
