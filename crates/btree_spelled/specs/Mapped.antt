-- A value as the bytes of another one, as a struct as those of the tuple of its fields.
use Rattle.std.specs.Prelude.{List, ℕ, option_map}
use Rattle.btree_spelled.specs.Spelled.{Read}

module _ {X Y : Type 0} where
  -- the bytes of what stands for the value
  abbrev pub mapped_bytes : (X → Y) → (Y → List ℕ) → X → List ℕ
  mapped_bytes from spell x = spell (from x)

  -- the value that what is read stands for
  abbrev pub mapped_read : (Y → X) → Read Y → Read X
  mapped_read to read bytes = option_map (λ y. (to y.0, y.1)) (read bytes)
