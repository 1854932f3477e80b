-- The last item under a node, which `remove_rightmost_leaf_of` takes.
-- `EndsInLeaf` names the rightmost leaf under a node, and `TakesLast` says that its last item was taken there.
-- `LosesItem` says what is so of the whole tree then, which `rebalance` may repair at the leaf. None of them says
-- anything of the tree's length.
use Rattle.std.specs.Prelude.{◌≡◌, ℕ, suc, List, length, slice_get, Option, Some, option_map}
use Rattle.std.specs.FinMap as map
use Rattle.std.specs.List.{remove}
use Rattle.std.specs.declared.cmp.Ordering.{Ordering}
use Rattle.btree_item.specs.Address.{Address}
use Rattle.btree_view.specs.View.{leaf, size_of}
use Rattle.btree_laws.specs.Addresses.{last_leaf}
use Rattle.btree_laws.specs.Focus.Positions.{address_at}
use Rattle.btree_laws.specs.Place.{IsLeaf}
use Rattle.btree_laws.specs.Step.{WritesNode}
use Rattle.btree_laws.specs.TreeState.{TreeState, IsOffByOneAt, IsPlaceIn, KeepsRest, item_of, node_map, pairs_of}

-- the last leaf under a node, with its number of items, ends where the node does
pub record EndsInLeaf {K V : Type 0} (s : TreeState K V) (id : ℕ) (last : ℕ × ℕ) : Type 0 where
  pub final : last.0 ≡ last_leaf (node_map s) (map.len s.nodes) id
  pub is_leaf : IsLeaf (node_map s) (node_map s last.0)
  pub count : option_map size_of (node_map s last.0) ≡ Some last.1
  pub ends : (place size : ℕ) → option_map size_of (node_map s id) ≡ Some size
      → IsPlaceIn s (address_at id size) place → IsPlaceIn s (address_at last.0 last.1) place

-- the last item x under node `top`, which is in leaf `id`, was removed there; nothing else has changed
pub record TakesLast {K V : Type 0} (old new : TreeState K V) (top : ℕ) (x : K × V) (id : ℕ) : Type 0 where
  pub parent : Option ℕ
  pub items : List (K × V)
  pub index : ℕ
  pub here : node_map old id ≡ Some (leaf parent items)
  pub count : length items ≡ suc index
  pub last : slice_get items index ≡ Some x
  pub ends : EndsInLeaf old top (id, suc index)
  pub writes : WritesNode (node_map old) (node_map new) id (leaf parent (remove items index))
  pub rest : KeepsRest old new

-- the item x of leaf `id` was removed from the list, and the tree is off by one at the leaf
pub record LosesItem {K V : Type 0} (cmp : K → K → Ordering) (old new : TreeState K V) (x : K × V) (id : ℕ) : Type 0 where
  pub at : Address
  pub in_leaf : at.id ≡ id
  pub had : item_of old at ≡ Some x
  pub place : ℕ
  pub at_place : IsPlaceIn old at place
  pub pairs : pairs_of new ≡ remove (pairs_of old) place
  pub off : IsOffByOneAt cmp new id
