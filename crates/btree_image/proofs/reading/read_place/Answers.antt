use Rattle.std.proofs.Common.{◌≡◌, ◌≢◌, ℕ, zero, suc, Bool, List, refl}
use Rattle.btree_image.specs.declared.fault.BadImage.TheVariants.{Kind}
use Rattle.btree_image.specs.Reading.{node_at, place_at, stop}
use Rattle.btree_spelled.specs.Spelled.{Read}
use Rattle.btree_image.proofs.reading.read_place.Goals as goal

-- a place of another kind
node_at-other : {K V : Type 0} (read_key : Read K) (read_value : Read V) (is_last : Bool) (all : List ℕ) (kind : ℕ) (bytes : List ℕ) → kind ≢ 1 → kind ≢ 2 → kind ≢ 0 → node_at read_key read_value is_last all kind bytes ≡ stop Kind all
node_at-other read_key read_value is_last all zero bytes one two none = absurd (none refl)
node_at-other read_key read_value is_last all (suc zero) bytes one two none = absurd (one refl)
node_at-other read_key read_value is_last all (suc (suc zero)) bytes one two none = absurd (two refl)
node_at-other read_key read_value is_last all (suc (suc (suc n))) bytes one two none = refl

pub returns-then-kind-ne0 : goal.returns-then-kind-ne0
unfolding place_at
returns-then-kind-ne0 g c =
    rw (c.stop.ensures, c.in_ok-kind.ensures) (node_at-other _ _ _ _ _ _ c.if-kind-eq1.false c.if-kind-eq2.false c.if-kind-ne0.true)
