-- Two copies of a tree, of which either may have a fault.
use Rattle.std.specs.Prelude.{◌≡◌, ◌⊎◌}
use Rattle.std.specs.declared.cmp.Ordering.{Ordering}
use Rattle.btree_slab.specs.TreeState.{TreeState}
use Rattle.btree_slab.specs.Limit.{IsBTreeWithinLimit}

module _ {K V : Type 0} (cmp : K → K → Ordering) (first second : TreeState K V) where
  -- what was read is the first copy, or the second one if the first has a fault
  abbrev pub ReadsCopy : (read : TreeState K V) → Type 0
  ReadsCopy read = (read ≡ first) ⊎ ((IsBTreeWithinLimit first cmp → ⊥) × (read ≡ second))

  -- both copies have a fault
  pub record HaveFaults : Type 0 where
    pub first_has : IsBTreeWithinLimit first cmp → ⊥
    pub second_has : IsBTreeWithinLimit second cmp → ⊥
