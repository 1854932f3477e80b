-- From an address to the next: how the back addresses of a tree are visited forwards, and the front ones backwards.
use Rattle.std.specs.Prelude.{◌≡◌, ℕ, suc, zero, ◌<◌, ◌==◌, if◌then◌else◌, nat_lt, List, [], ◌∷◌, length, slice_get, option_map, Option, Some, None}
use Rattle.btree_item.specs.Address.{Address}
use Rattle.btree_view.specs.View.{View, leaf, NodeMap, children_in, children_of, parent_of, size_of}
use Rattle.btree_laws.specs.Addresses.{first_leaf, last_item, slot_before}
use Rattle.btree_laws.specs.Focus.Positions.{address_before, address_at}

-- the index before `i` has this address
pub record ComesBefore (list : List Address) (i : ℕ) (a : Address) : Type 0 where
  pub index : ℕ
  pub is : i ≡ suc index
  pub at : slice_get list index ≡ Some a

-- what is before an index
abbrev pub prior : {X : Type 0} → List X → ℕ → Option X
prior list zero = None
prior list (suc i) = slice_get list i

-- the index of a number in a list, if it is there
abbrev pub index_in : ℕ → List ℕ → Option ℕ
index_in n [] = None
index_in n (m ∷ numbers) = if n == m then Some 0 else option_map suc (index_in n numbers)

module _ {A : Type 0} (node_at : NodeMap A) where
  -- the address in a node's parent that `at` gives for the index of the node among its children
  abbrev pub in_parent : (ℕ → ℕ → Address) → (id : ℕ) → Option ℕ → Option Address
  in_parent at id None = None
  in_parent at id (Some parent) = option_map (at parent) (index_in id (children_in (node_at parent)))

  module _ (levels : ℕ) where
    -- the back address after one at an offset, given the node and its child after the offset
    abbrev pub back_after_in : (id offset : ℕ) → View A → Option ℕ → Option Address
    back_after_in id offset node (Some child) = Some (address_at (first_leaf node_at levels child) 0)
    back_after_in id offset node None =
        if nat_lt offset (size_of node) then Some (address_at id (suc offset)) else in_parent address_at id (parent_of node)

    -- the back address after one at an offset of a node
    abbrev pub back_after_at : (id : ℕ) → Option (View A) → Option ℕ → Option Address
    back_after_at id None offset = None
    back_after_at id (Some node) None = None
    back_after_at id (Some node) (Some offset) = back_after_in id offset node (slice_get (children_of node) (suc offset))

    -- the back address that is visited after one
    abbrev pub back_after : Address → Option Address
    back_after a = back_after_at a.id (node_at a.id) a.offset

    -- the front address before one at an offset, given the child before the offset
    abbrev pub front_before_in : (id offset : ℕ) → Option ℕ → Address
    front_before_in id offset (Some child) = last_item node_at levels child
    front_before_in id offset None = slot_before id offset

    -- the front address before one at an offset of a node
    abbrev pub front_before_at : (id : ℕ) → Option (View A) → Option ℕ → Option Address
    front_before_at id None offset = None
    front_before_at id (Some node) None = in_parent slot_before id (parent_of node)
    front_before_at id (Some node) (Some offset) = Some (front_before_in id offset (slice_get (children_of node) offset))

    -- the front address that a backward visit reaches after one
    abbrev pub front_before : Address → Option Address
    front_before a = front_before_at a.id (node_at a.id) a.offset

module _ {A : Type 0} (node_at : NodeMap A) (levels root : ℕ) (list : List Address) where
  -- the list begins in the leftmost leaf, and each address is followed by the next back one
  pub record VisitsBacks : Type 0 where
    pub first : slice_get list 0 ≡ Some (address_at (first_leaf node_at levels root) 0)
    -- in a leaf, before its end: the next offset
    pub along : (i id offset : ℕ) (parent : Option ℕ) (items : List A) → node_at id ≡ Some (leaf parent items) → offset < length items
        → slice_get list i ≡ Some (address_at id offset) → slice_get list (suc i) ≡ Some (address_at id (suc offset))
    -- at an item of an internal node: the first one in the leftmost leaf under the child after the item
    pub down : (i id offset child : ℕ) → slice_get (children_in (node_at id)) (suc offset) ≡ Some child
        → slice_get list i ≡ Some (address_at id offset) → slice_get list (suc i) ≡ Some (address_at (first_leaf node_at levels child) 0)
    -- past the last item: in the parent, at the index of the node among its children
    pub up : (i id offset : ℕ) (node : View A) (parent index : ℕ) → node_at id ≡ Some node → offset ≡ size_of node
        → slice_get (children_in (node_at parent)) index ≡ Some id
        → slice_get list i ≡ Some (address_at id offset) → slice_get list (suc i) ≡ Some (address_at parent index)
    -- past the last item of the root: none
    pub last : (i id offset : ℕ) (node : View A) → node_at id ≡ Some node → offset ≡ size_of node → parent_of node ≡ None
        → slice_get list i ≡ Some (address_at id offset) → length list ≡ suc i

  -- the list ends at the last item of the rightmost leaf, and before each address is the next front one of a backward
  -- visit
  pub record VisitsFronts : Type 0 where
    pub last : ComesBefore list (length list) (last_item node_at levels root)
    -- in a leaf, at an item: the address one before
    pub along : (i id offset : ℕ) (parent : Option ℕ) (items : List A) → node_at id ≡ Some (leaf parent items)
        → slice_get list i ≡ Some (address_at id offset) → ComesBefore list i (slot_before id offset)
    -- at an item of an internal node: the last item of the rightmost leaf under the child before the item
    pub down : (i id offset child : ℕ) → slice_get (children_in (node_at id)) offset ≡ Some child
        → slice_get list i ≡ Some (address_at id offset) → ComesBefore list i (last_item node_at levels child)
    -- at -1: in the parent, one before the index of the node among its children
    pub up : (i id parent index : ℕ) → slice_get (children_in (node_at parent)) index ≡ Some id
        → slice_get list i ≡ Some (address_before id) → ComesBefore list i (slot_before parent index)
    -- at -1 of the root: none
    pub first : (i id : ℕ) (node : View A) → node_at id ≡ Some node → parent_of node ≡ None
        → slice_get list i ≡ Some (address_before id) → i ≡ 0
