-- The limit of a tree's length: how many pairs there may be. Insertions keep a tree within it; a raw tree may be beyond.
use Rattle.std.specs.Prelude.{◌<◌, ◌≤◌}
use Rattle.std.specs.declared.cmp.Ordering.{Ordering}
use Rattle.btree_laws.specs.TreeState.{TreeState, IsBTree}

module _ {K V : Type 0} (s : TreeState K V) where
  -- there may be one more pair
  abbrev pub IsBelowLimit : Type 0
  IsBelowLimit = s.len < s.kept.limit

  -- there are no more pairs than there may be
  abbrev pub IsWithinLimit : Type 0
  IsWithinLimit = s.len ≤ s.kept.limit

  -- the tree is well formed and has no more pairs than there may be
  abbrev pub IsBTreeWithinLimit : (K → K → Ordering) → Type 0
  IsBTreeWithinLimit cmp = IsBTree cmp s × IsWithinLimit
