-- The lists of addresses of a tree, as functions of its state. A tree has at most as many levels as nodes.
-- `HasAddresses` holds for every well formed tree, whatever its length, and for every tree that is off by one at a node
-- (`proofs/AddressLists/Whole.antt`).
use Rattle.std.specs.Prelude.{◌≡◌, ℕ, suc, List, length, slice_get, Option, Some, None}
use Rattle.std.specs.FinMap as map
use Rattle.btree_item.specs.Address.{Address}
use Rattle.btree_view.specs.View.{NodeMap}
use Rattle.btree_laws.specs.Addresses.{item_addresses_under, leaf_backs_under, backs_under, fronts_under, first_leaf, last_item}
use Rattle.btree_laws.specs.AddressLaws.{ListsItems, ListsLeafBacks, ListsBacks, ListsFronts}
use Rattle.btree_laws.specs.Focus.Positions.{address_at}
use Rattle.btree_laws.specs.TreeState.{TreeState, node_map, pairs_of}
use Rattle.btree_laws.specs.Visits.{back_after, front_before, prior}

-- the first back address under a root: offset 0 in the leftmost leaf
abbrev pub first_back_under : {A : Type 0} → NodeMap A → (levels : ℕ) → Option ℕ → Option Address
first_back_under node_at levels None = None
first_back_under node_at levels (Some root) = Some (address_at (first_leaf node_at levels root) 0)

-- the last front address under a root, where a backward visit begins: the last item of the rightmost leaf
abbrev pub last_front_under : {A : Type 0} → NodeMap A → (levels : ℕ) → Option ℕ → Option Address
last_front_under node_at levels None = None
last_front_under node_at levels (Some root) = Some (last_item node_at levels root)

module _ {K V : Type 0} (s : TreeState K V) where
  -- the addresses of the items, in order
  abbrev pub item_addresses_of : List Address
  item_addresses_of = item_addresses_under (node_map s) (map.len s.nodes) s.root

  -- the back addresses in leaves, in order; in an empty tree the address nowhere
  abbrev pub leaf_backs_of : List Address
  leaf_backs_of = leaf_backs_under (node_map s) (map.len s.nodes) s.root

  -- the back addresses in nodes, in the order of a forward visit; an empty tree has none
  abbrev pub backs_of : List Address
  backs_of = backs_under (node_map s) (map.len s.nodes) s.root

  -- the front addresses, which a backward visit passes from the last to the first; an empty tree has none
  abbrev pub fronts_of : List Address
  fronts_of = fronts_under (node_map s) (map.len s.nodes) s.root

  -- where a forward visit of the back addresses begins
  abbrev pub first_back : Option Address
  first_back = first_back_under (node_map s) (map.len s.nodes) s.root

  -- where a backward visit of the front addresses begins
  abbrev pub last_front : Option Address
  last_front = last_front_under (node_map s) (map.len s.nodes) s.root

  -- the back address after one
  abbrev pub next_back : Address → Option Address
  next_back a = back_after (node_map s) (map.len s.nodes) a

  -- the front address before one
  abbrev pub previous_front : Address → Option Address
  previous_front a = front_before (node_map s) (map.len s.nodes) a

  -- the lists have the tree's addresses, and the functions above give their order
  pub record HasAddresses : Type 0 where
    pub items : ListsItems (node_map s) s.root (pairs_of s) item_addresses_of
    pub leaf_backs : ListsLeafBacks (node_map s) s.root (pairs_of s) leaf_backs_of
    -- the numbers of the nodes
    pub numbers : List ℕ
    pub nodes : map.len s.nodes ≡ length numbers
    pub backs : ListsBacks (node_map s) s.root (pairs_of s) backs_of numbers
    pub fronts : ListsFronts (node_map s) s.root (pairs_of s) fronts_of numbers
    pub first : slice_get backs_of 0 ≡ first_back
    pub next : (i : ℕ) (a : Address) → slice_get backs_of i ≡ Some a → slice_get backs_of (suc i) ≡ next_back a
    pub last : prior fronts_of (length fronts_of) ≡ last_front
    pub previous : (i : ℕ) (a : Address) → slice_get fronts_of i ≡ Some a → prior fronts_of i ≡ previous_front a
