-- What the parts of a walk still have to pass.
-- A walk is in a leaf, of which it has passed some items, below a list of ancestors, each with its items that are not
-- passed. `remaining_of` is the list of pairs that are left, `remaining_after` the same where the run of the leaf is
-- kept, and `remaining_at` the same on the way down to a node. `IsNextIn` and `IsNextAbove` say which pair is next, in the leaf and above it.
use Rattle.std.specs.Prelude.{◌≡◌, ℕ, ◌+◌, List, [], ◌∷◌, ◌++◌, length, map, drop, Option, Some, None}
use Rattle.std.specs.Borrow.{Bor}
use Rattle.std.specs.FinMap as finite
use Rattle.btree_leaf.specs.Leaf.{Leaf}
use Rattle.btree_node.specs.Node.{view_of}
use Rattle.btree_view.specs.View.{branches_of}
use Rattle.btree_laws.specs.Remaining.{remaining_above, AreRows, IsUnder}
use Rattle.btree_laws.specs.Represents.{represented}
use Rattle.btree_laws.specs.TreeState.{TreeState, node_map}
use Rattle.btree_walk.specs.declared.ancestors.Ancestor.{Ancestor}

module _ {K V : Type 0} where
  -- for each ancestor the items that are not passed, each with the child after it
  abbrev pub rows_of : List (Ancestor K V) → List (List ((K × V) × ℕ))
  rows_of ancestors = map (λ f. drop f.passed (branches_of (view_of f.node.now))) ancestors

  -- the items of a leaf that are not passed
  abbrev pub remaining_in_leaf : Option (Bor (Leaf K V)) → (passed : ℕ) → List (K × V)
  remaining_in_leaf None passed = []
  remaining_in_leaf (Some leaf) passed = drop passed leaf.now.items

  -- the same, kept as a list
  abbrev pub run_left : Option (List (K × V)) → List (K × V)
  run_left None = []
  run_left (Some run) = run

  -- the first of these items, or none if all are passed
  abbrev pub IsNextIn : Option (Bor (Leaf K V)) → (passed : ℕ) → Option (Bor K × Bor V) → Type 0
  IsNextIn leaf passed None = remaining_in_leaf leaf passed ≡ []
  IsNextIn leaf passed (Some pair) = remaining_in_leaf leaf passed ≡ (pair.0.now, pair.1.now) ∷ remaining_in_leaf leaf (passed + 1)

module _ {K V : Type 0} (tree : TreeState K V) where
  -- ancestors from the root down: the child after each item that is not passed is one level below
  abbrev pub AreAncestors : List (Ancestor K V) → Type 0
  AreAncestors ancestors = AreRows (node_map tree) (finite.len tree.nodes) 0 (rows_of ancestors)

  -- a node that can be below the last ancestor
  abbrev pub IsBelow : List (Ancestor K V) → (id : ℕ) → Type 0
  IsBelow ancestors id = IsUnder (node_map tree) (finite.len tree.nodes) (length (rows_of ancestors)) id

  -- what is left in the ancestors
  abbrev pub remaining_in_ancestors : List (Ancestor K V) → List (K × V)
  remaining_in_ancestors ancestors = remaining_above (node_map tree) (finite.len tree.nodes) (rows_of ancestors)

  -- what is left of a walk that comes to a node: the list that the node represents, and what is left in its ancestors
  abbrev pub remaining_at : (id : ℕ) → List (Ancestor K V) → List (K × V)
  remaining_at id ancestors = represented (node_map tree) (finite.len tree.nodes) id ++ remaining_in_ancestors ancestors

  -- what is left of a walk that is in a leaf
  abbrev pub remaining_of : Option (Bor (Leaf K V)) → (passed : ℕ) → List (Ancestor K V) → List (K × V)
  remaining_of leaf passed ancestors = remaining_in_leaf leaf passed ++ remaining_in_ancestors ancestors

  -- the same, where what the leaf has left is kept as a list
  abbrev pub remaining_after : Option (List (K × V)) → List (Ancestor K V) → List (K × V)
  remaining_after run ancestors = run_left run ++ remaining_in_ancestors ancestors

  -- the first item that is left in the ancestors, with the first leaf after it, or none if nothing is left
  abbrev pub IsNextAbove : (old new : List (Ancestor K V)) → Option ((Bor K × Bor V) × Bor (Leaf K V)) → Type 0
  IsNextAbove old new None = (remaining_in_ancestors old ≡ []) × (rows_of new ≡ [])
  IsNextAbove old new (Some next) = remaining_in_ancestors old ≡ (next.0.0.now, next.0.1.now) ∷ remaining_of (Some next.1) 0 new
