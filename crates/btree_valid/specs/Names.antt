-- The walk of the validator and the positions: what it knows when it begins at a spot, and the fault that it answers.
-- Only the private functions of `src/faults.rt` cite these words; the public calls cite `Positions.antt`.
use Rattle.std.specs.Prelude.{◌≡◌, ℕ, ◌≤◌, List, IfErr, IfSome, None, Result, option_copied}
use Rattle.std.specs.declared.cmp.Ordering.{Ordering}
use Rattle.btree_item.specs.declared.TheConstants.{MAX_LEVELS}
use Rattle.btree_item.specs.declared.fault.Fault.{Fault}
use Rattle.btree_node.specs.declared.node.Node.{Node}
use Rattle.btree_store.specs.Content.{Content}
use Rattle.btree_laws.specs.TreeState.{views}
use Rattle.btree_valid.specs.Positions.{IsFirstFaultAmong, IsFirstLeaf, IsLeafDepth, IsMetBelow, Spotted}
use Rattle.btree_valid.specs.declared.faults.Met.{Met}
use Rattle.btree_valid.specs.declared.faults.Spot.{Spot}

-- a spot of the walk as positions have it
abbrev pub spotted : {K : Type 0} → Spot K → Spotted K
spotted spot = record {
  depth = spot.level;
  id = spot.id;
  parent = spot.parent;
  min = option_copied spot.min;
  max = option_copied spot.max;
}

module _ {K V : Type 0} (content : Content (Node K V)) where
  -- the first leaf below the origin is on this level
  abbrev pub IsFirstLevel : (origin : Spotted K) → ℕ → Type 0
  IsFirstLevel origin = IsLeafDepth (views content) (IsMetBelow (views content) origin)

  -- what the walk that began at the origin has met is the level of the first leaf; if it has met none, the first leaf
  -- from here on is the first
  pub record Knows (origin : Spotted K) (spot : Spot K) (met : Met) : Type 0 where
    pub low : spot.level ≤ MAX_LEVELS
    pub first : IfSome met.leaf_level (IsFirstLevel origin)
    pub next : met.leaf_level ≡ None → (way : List ℕ) (at : Spotted K) → IsFirstLeaf (views content) (IsMetBelow (views content) (spotted spot)) way at → IsFirstLevel origin at.depth

  -- an answered fault is the first from the spot on
  abbrev pub NamesAt : (cmp : K → K → Ordering) → Spot K → (met : Met) → Result Met Fault → Type 0
  NamesAt cmp spot met answer = (origin : Spotted K) → Knows origin spot met
      → IfErr answer (IsFirstFaultAmong cmp (views content) (IsFirstLevel origin) (IsMetBelow (views content) (spotted spot)))
