-- What a backward walk through a tree still has to pass, as `Rows.antt` says it of a forward one.
-- The walk has passed items of its leaf and of the nodes above from the last one backwards. A row is what is left of one
-- internal node: the items that are not passed, each with the child before it. `preceding_of` is the list of pairs that
-- are left, and `preceding_at` the same on the way down to a node. `IsPreviousAbove` says which pair above the
-- leaf is the last of them.
use Rattle.std.specs.Prelude.{⊤, ◌≡◌, ℕ, ◌+◌, ◌-◌, ◌≤◌, List, [], ◌∷◌, ◌++◌, length, map, take, Option, Some, None}
use Rattle.std.specs.Borrow.{Bor}
use Rattle.std.specs.FinMap as finite
use Rattle.std.specs.List.{flat_map, AllByRecursion}
use Rattle.btree_leaf.specs.Leaf.{Leaf}
use Rattle.btree_node.specs.declared.node.Node.{Node}
use Rattle.btree_node.specs.Node.{view_of}
use Rattle.btree_view.specs.View.{View, leaf, internal, NodeMap, size_of}
use Rattle.btree_laws.specs.Remaining.{AreRows, IsUnder}
use Rattle.btree_laws.specs.Represents.{represented}
use Rattle.btree_laws.specs.TreeState.{TreeState, IsUsed, node_map}
use Rattle.btree_walk.specs.Rows.{run_left}
use Rattle.btree_walk.specs.declared.ancestors.Ancestor.{Ancestor}

module _ {A : Type 0} where
  -- the items, each with the child before it; `child` is before the first
  abbrev pub with_child_before : (child : ℕ) → List (A × ℕ) → List (A × ℕ)
  with_child_before child [] = []
  with_child_before child (b ∷ bs) = (b.0, child) ∷ with_child_before b.1 bs

  -- the items of an internal node, each with the child before it
  abbrev pub branches_before : View A → List (A × ℕ)
  branches_before (leaf parent items) = []
  branches_before (internal parent first branches) = with_child_before first branches

  -- those that are not passed
  abbrev pub row_before : View A → (passed : ℕ) → List (A × ℕ)
  row_before node passed = take (size_of node - passed) (branches_before node)

  -- the last of them, or none if all are passed
  abbrev pub EndsAt : View A → (passed : ℕ) → Option (Bor A × ℕ) → Type 0
  EndsAt node passed None = row_before node passed ≡ []
  EndsAt node passed (Some b) = row_before node passed ≡ row_before node (passed + 1) ++ (b.0.now, b.1) ∷ []

module _ {A : Type 0} (node_at : NodeMap A) (levels : ℕ) where
  -- the list that the child before each item of a row represents, and then the item
  abbrev pub preceding_in : List (A × ℕ) → List A
  preceding_in row = flat_map (λ b. represented node_at levels b.1 ++ b.0 ∷ []) row

  -- what is left in all rows; the highest row comes first
  abbrev pub preceding_above : List (List (A × ℕ)) → List A
  preceding_above [] = []
  preceding_above (row ∷ rows) = preceding_in row ++ preceding_above rows

module _ {K V : Type 0} where
  -- for each ancestor the items that are not passed
  abbrev pub rows_before : List (Ancestor K V) → List (List ((K × V) × ℕ))
  rows_before ancestors = map (λ f. row_before (view_of f.node.now) f.passed) ancestors

  -- the first items of a leaf, as many as are not passed
  abbrev pub kept_in_leaf : Option (Bor (Leaf K V)) → (kept : ℕ) → List (K × V)
  kept_in_leaf None kept = []
  kept_in_leaf (Some node) kept = take kept node.now.items

  -- a leaf has at least so many items
  abbrev pub HasKept : Option (Bor (Leaf K V)) → (kept : ℕ) → Type 0
  HasKept None kept = kept ≡ 0
  HasKept (Some node) kept = kept ≤ length node.now.items

  -- the leaf before an item has at least as many items as it says
  abbrev pub HasKeptAbove : Option ((Bor K × Bor V) × Bor (Leaf K V) × ℕ) → Type 0
  HasKeptAbove None = ⊤
  HasKeptAbove (Some p) = HasKept (Some p.1) p.2

module _ {K V : Type 0} (tree : TreeState K V) where
  -- ancestors from the root down: the child before each item that is not passed is one level below
  abbrev pub AreAncestorsBefore : List (Ancestor K V) → Type 0
  AreAncestorsBefore ancestors = AreRows (node_map tree) (finite.len tree.nodes) 0 (rows_before ancestors)

  -- each is the node with its number
  abbrev pub AreFetched : List (ℕ × Bor (Node K V)) → Type 0
  AreFetched fetched = AllByRecursion (λ f. finite.get tree.nodes f.0 ≡ Some f.1.now) fetched

  -- the child before each item that an ancestor has not passed is a node of the tree
  abbrev pub HasChildrenBefore : Ancestor K V → Type 0
  HasChildrenBefore f =
      AllByRecursion (λ b. IsUsed tree b.1) (row_before (view_of f.node.now) f.passed)

  -- what is left in the ancestors
  abbrev pub preceding_in_ancestors : List (Ancestor K V) → List (K × V)
  preceding_in_ancestors ancestors = preceding_above (node_map tree) (finite.len tree.nodes) (rows_before ancestors)

  -- a node that can be below the last ancestor
  abbrev pub IsBelowBefore : List (Ancestor K V) → (id : ℕ) → Type 0
  IsBelowBefore ancestors id = IsUnder (node_map tree) (finite.len tree.nodes) (length (rows_before ancestors)) id

  -- what is left of a walk that comes to a node: what is left in its ancestors, and the list that the node represents
  abbrev pub preceding_at : (id : ℕ) → List (Ancestor K V) → List (K × V)
  preceding_at id ancestors = preceding_in_ancestors ancestors ++ represented (node_map tree) (finite.len tree.nodes) id

  -- what is left of a walk that is in a leaf
  abbrev pub preceding_of : Option (Bor (Leaf K V)) → (kept : ℕ) → List (Ancestor K V) → List (K × V)
  preceding_of node kept ancestors = preceding_in_ancestors ancestors ++ kept_in_leaf node kept

  -- the same, where what the leaf has left is kept as a list
  abbrev pub preceding_with : Option (List (K × V)) → List (Ancestor K V) → List (K × V)
  preceding_with run ancestors = preceding_in_ancestors ancestors ++ run_left run

  -- the last item that is left in the ancestors, with the last leaf before it, or none if nothing is left
  abbrev pub IsPreviousAbove : (old new : List (Ancestor K V)) → Option ((Bor K × Bor V) × Bor (Leaf K V) × ℕ) → Type 0
  IsPreviousAbove old new None = (preceding_in_ancestors old ≡ []) × (rows_before new ≡ [])
  IsPreviousAbove old new (Some p) = preceding_in_ancestors old ≡ preceding_of (Some p.1) p.2 new ++ (p.0.0.now, p.0.1.now) ∷ []
