-- A focus: a tree seen from one of its nodes, whose own number of items is left open.
use Rattle.std.specs.Prelude.{◌≡◌, ℕ, ◌+◌, List, ◌++◌, None}
use Rattle.btree_view.specs.View.{NodeMap}
use Rattle.btree_laws.specs.WellFormed.{times_used}
use Rattle.btree_laws.specs.Lists.{times_listed}
use Rattle.btree_laws.specs.Focus.Subtree.{IsFilled, Subtree, id_of, items_under, times_under, Holds, count_at, IsFilledBelow}
use Rattle.btree_laws.specs.Focus.Path.{Path, parent_above, items_before, items_after, times_above, HoldsAbove, AreFilled, root_above}

-- the path above a node and the subtree at it are one tree with this root, which represents the list; the numbers in
-- `spare` are used too, each once, and are no nodes of the tree
pub record IsFocus (A : Type 0) (node_at : NodeMap A) (spare : List ℕ) (root : ℕ) (xs : List A)
    (height : ℕ) (path : Path A height) (subtree : Subtree A height) : Type 0 where
  pub above : HoldsAbove node_at path (id_of A height subtree)
  pub inner : Holds A node_at height (parent_above path) subtree
  pub once : (n : ℕ) → times_above n path + (times_under A height n subtree + times_listed n spare) ≡ times_used (node_at n)
  pub filled : AreFilled path
  pub below : IsFilledBelow A height subtree
  pub list : xs ≡ items_before path ++ (items_under A height subtree ++ items_after path)
  pub root_is : root_above path (id_of A height subtree) ≡ root

-- the same, whatever the numbers of items are
pub record IsUnsizedFocus (A : Type 0) (node_at : NodeMap A) (spare : List ℕ) (root : ℕ) (xs : List A)
    (height : ℕ) (path : Path A height) (subtree : Subtree A height) : Type 0 where
  pub above : HoldsAbove node_at path (id_of A height subtree)
  pub inner : Holds A node_at height (parent_above path) subtree
  pub once : (n : ℕ) → times_above n path + (times_under A height n subtree + times_listed n spare) ≡ times_used (node_at n)
  pub list : xs ≡ items_before path ++ (items_under A height subtree ++ items_after path)
  pub root_is : root_above path (id_of A height subtree) ≡ root

-- a tree with its focus at the root, where each node has its number of items and no number is spare
pub record IsTree (A : Type 0) (node_at : NodeMap A) (root : ℕ) (xs : List A) : Type 0 where
  pub height : ℕ
  pub subtree : Subtree A height
  pub at_root : id_of A height subtree ≡ root
  pub holds : Holds A node_at height None subtree
  pub once : (n : ℕ) → times_under A height n subtree ≡ times_used (node_at n)
  pub sized : IsFilled 1 height (count_at A height subtree)
  pub below : IsFilledBelow A height subtree
  pub represents : items_under A height subtree ≡ xs

-- the tree has a focus at node `id`
pub record HasFocus (A : Type 0) (node_at : NodeMap A) (spare : List ℕ) (root : ℕ) (xs : List A) (id : ℕ) : Type 0 where
  pub height : ℕ
  pub path : Path A height
  pub subtree : Subtree A height
  pub here : id_of A height subtree ≡ id
  pub whole : IsFocus A node_at spare root xs height path subtree
