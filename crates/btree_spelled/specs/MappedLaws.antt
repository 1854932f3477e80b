-- What stands for a value is read as that value.
use Rattle.std.proofs.Common.{◌≡◌, ℕ, List, ◌++◌, Option, Some, None, refl, sym, ap, subst, ◌∙◌}
use Rattle.std.specs.Prelude.{option_map}
use Rattle.btree_spelled.specs.Mapped.{mapped_bytes, mapped_read}
use Rattle.btree_spelled.specs.Spelled.{AreBytes, Read, Takes}

module _ {X Y : Type 0} (from : X → Y) (to : Y → X) (spell : Y → List ℕ) (read : Read Y) where
  mapped_is : (bytes rest : List ℕ) (x : X) (found : Option (Y × List ℕ)) → ((y : Y) (after : List ℕ) → found ≡ Some (y, after) → (from (to y) ≡ y) × (bytes ≡ spell y ++ after))
      → option_map {U = X × List ℕ} (λ y. (to y.0, y.1)) found ≡ Some (x, rest) → bytes ≡ spell (from x) ++ rest
  mapped_is bytes rest x None held e = absurd cc
  mapped_is bytes rest x (Some y) held e =
      let p = held y.0 y.1 refl in
      let same : (to y.0, y.1) ≡ (x, rest) = cc in
      subst (λ (z : X × List ℕ). bytes ≡ spell (from z.0) ++ z.1) same (p.1 ∙ ap (λ (v : Y). spell v ++ y.1) (sym p.0))

  -- where what is read is spelled so, and each value that is read stands for one
  pub mapped-takes-if : ((bytes rest : List ℕ) (y : Y) → AreBytes bytes → read bytes ≡ Some (y, rest) → from (to y) ≡ y) → Takes spell read → Takes (mapped_bytes from spell) (mapped_read to read)
  mapped-takes-if stands takes bytes rest x fits e =
      mapped_is bytes rest x (read bytes) (λ y after found. (stands bytes after y fits found, takes bytes after y fits found)) e

  -- where each value stands for one
  pub mapped-takes : ((y : Y) → from (to y) ≡ y) → Takes spell read → Takes (mapped_bytes from spell) (mapped_read to read)
  mapped-takes stands takes = mapped-takes-if (λ bytes rest y fits found. stands y) takes

-- what was written is read
pub mapped-again : {X Y : Type 0} (to : Y → X) (read : Read Y) (bytes rest : List ℕ) (y : Y) → read bytes ≡ Some (y, rest) → mapped_read to read bytes ≡ Some (to y, rest)
mapped-again to read bytes rest y again = rw again refl
