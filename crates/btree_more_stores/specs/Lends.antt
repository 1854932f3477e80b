-- The places of a `FixedSlab` after a `&mut` into them has ended.
use Rattle.std.specs.Prelude.{ℕ, Option, Some}
use Rattle.std.specs.Borrow.{LendsIf, Fml, RattleType, MutBor, unit}
use Rattle.std.specs.contracts.option.Option.{the_row as option_row}
use Rattle.arrayvec.specs.ArrayVec.{ArrayVec, with_item}
use Rattle.arrayvec.specs.contracts.array_vec.ArrayVec.{the_row as vec_row}

module _ (T N : RattleType) (slots : MutBor (ArrayVec (Option T.Denot))) where
  -- once the borrow r ends, the value in the place is the last one that r pointed to; at `None` nothing changes
  abbrev pub lends_place : ℕ → Option (MutBor T.Denot) → Fml
  lends_place place r = LendsIf (vec_row (option_row T) N unit) T slots r (λ value. with_item slots.now place (Some value)) slots.now
