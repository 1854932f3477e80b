-- How a walk from a key passes through one node.
-- Items of a node with keys below the key are passed by a walk that goes forward, and those above by one that goes
-- backward. The walk goes on in the child between them, if the node has one there and no item of it has the key.
use Rattle.std.specs.Prelude.{ℕ, ◌+◌, List, Option, None, Result, Ok, Err, slice_get}
use Rattle.std.specs.declared.cmp.Ordering.{Ordering}
use Rattle.btree_item.specs.Pairs.{place_of}
use Rattle.btree_view.specs.View.{View, items_of, children_of}

-- by the place of the key: the number of smaller keys, and the child that may hold the key
abbrev pub below_place : Result ℕ ℕ → List ℕ → ℕ × Option ℕ
below_place (Ok i) children = (i, None)
below_place (Err i) children = (i, slice_get children i)

-- the number of items with keys below k, and the child to go on in
abbrev pub below_in : {K V : Type 0} → (K → K → Ordering) → (k : K) → View (K × V) → ℕ × Option ℕ
below_in cmp k node = below_place (place_of cmp k (items_of node)) (children_of node)

-- by the place of the key: the number of keys up to it, and the child that may hold the key
abbrev pub up_to_place : Result ℕ ℕ → List ℕ → ℕ × Option ℕ
up_to_place (Ok i) children = (i + 1, None)
up_to_place (Err i) children = (i, slice_get children i)

-- the number of items with keys up to k, and the child to go on in
abbrev pub up_to_in : {K V : Type 0} → (K → K → Ordering) → (k : K) → View (K × V) → ℕ × Option ℕ
up_to_in cmp k node = up_to_place (place_of cmp k (items_of node)) (children_of node)
