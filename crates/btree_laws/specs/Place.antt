-- The addresses of a tree, their kinds, and their places in its list.
-- In the empty tree `nowhere` is the only valid address. The other kinds (occupied, back, leaf address) are meant for
-- valid addresses. In a tree that is well formed, or off by one at a node, each address in a node has a place
-- (`has_place` in `proofs/Places/HasPlace.antt`), and only one (`one_place` and `one_place-well` in
-- `proofs/Places/OnePlace.antt`).
use Rattle.std.specs.Prelude.{◌≡◌, ℕ, ◌+◌, ◌^◌, ◌-◌, ◌≤◌, ◌⊎◌, List, ◌++◌, length, slice_get, Option, Some, None}
use Rattle.std.specs.Option.{option_and_then}
use Rattle.btree_item.specs.Address.{Address}
use Rattle.btree_view.specs.View.{View, leaf, internal, NodeMap, size_of, item_in}
use Rattle.btree_laws.specs.Represents.{Represents}

-- the number of the address that stands for no node
abbrev pub NOWHERE : ℕ
NOWHERE = 2 ^ 64 - 1

module _ {A : Type 0} (node_at : NodeMap A) where
  -- node `id` is a node whose subtree represents the list
  pub record IsSubtree (id : ℕ) (ys : List A) : Type 0 where
    pub height : ℕ
    pub parent : Option ℕ
    pub represents : Represents node_at height parent id ys

  -- the items of the subtree of node `id` are in the list after `before` others
  pub record IsSubtreeAt (xs : List A) (id : ℕ) (ys : List A) (before : ℕ) : Type 0 where
    pub front : List A
    pub back : List A
    pub subtree : IsSubtree id ys
    pub split : xs ≡ front ++ ys ++ back
    pub counted : before ≡ length front

  -- an address is a node's number and an offset in it, -1 (None) or a number from 0 to the number of items
  abbrev pub IsWithin : Option (View A) → Option ℕ → Type 0
  IsWithin None offset = ⊥
  IsWithin (Some node) None = Unit {0}
  IsWithin (Some node) (Some offset) = offset ≤ size_of node

  -- the address of the empty tree
  abbrev pub IsNowhere : Option ℕ → ℕ → Option ℕ → Type 0
  IsNowhere root id offset = (root ≡ None) × (id ≡ NOWHERE) × (offset ≡ Some 0)

  -- the address is one of the tree: in one of its nodes, or nowhere if it is empty
  abbrev pub IsValid : Option ℕ → ℕ → Option ℕ → Type 0
  IsValid root id offset = IsWithin (node_at id) offset ⊎ IsNowhere root id offset

  -- an item is at the address
  abbrev pub IsOccupied : ℕ → Option ℕ → Type 0
  IsOccupied id None = ⊥
  IsOccupied id (Some offset) = (x : A) × (item_in (node_at id) offset ≡ Some x)

  -- the offset is not -1
  abbrev pub IsBack : Option ℕ → Type 0
  IsBack None = ⊥
  IsBack (Some offset) = Unit {0}

  -- the node is a leaf
  abbrev pub IsLeaf : Option (View A) → Type 0
  IsLeaf None = ⊥
  IsLeaf (Some (leaf parent items)) = Unit {0}
  IsLeaf (Some (internal parent first branches)) = ⊥

  -- the address is in a leaf, or nowhere
  abbrev pub IsLeafAddress : Option ℕ → ℕ → Option ℕ → Type 0
  IsLeafAddress root id offset = IsLeaf (node_at id) ⊎ IsNowhere root id offset

  -- the offset past the last item of a node
  abbrev pub IsEnd : Option (View A) → ℕ → Type 0
  IsEnd None offset = ⊥
  IsEnd (Some node) offset = offset ≡ size_of node

  -- at -1: the number of items before the subtree
  abbrev pub IsPlaceBefore : List A → ℕ → ℕ → Type 0
  IsPlaceBefore xs id place = (ys : List A) × IsSubtreeAt xs id ys place

  -- past the last item: that number, and the number of items of the subtree
  abbrev pub IsPlaceAfter : List A → ℕ → ℕ → Type 0
  IsPlaceAfter xs id place = (ys : List A) × (before : ℕ) × IsSubtreeAt xs id ys before × (place ≡ before + length ys)

  -- at an item: its index in the list
  abbrev pub IsPlaceOf : List A → Option A → ℕ → Type 0
  IsPlaceOf xs None place = ⊥
  IsPlaceOf xs (Some x) place = slice_get xs place ≡ Some x

  -- the place of an address in the list of the tree
  abbrev pub IsPlace : (root : Option ℕ) → List A → (id : ℕ) → Option ℕ → ℕ → Type 0
  IsPlace None xs id offset place = IsNowhere None id offset × (place ≡ 0)
  IsPlace (Some root) xs id None place = IsPlaceBefore xs id place
  IsPlace (Some root) xs id (Some offset) place =
      IsPlaceOf xs (item_in (node_at id) offset) place ⊎ (IsEnd (node_at id) offset × IsPlaceAfter xs id place)

-- the item at an address, if there is one
abbrev pub item_at : {A : Type 0} → NodeMap A → Address → Option A
item_at node_at a = option_and_then (item_in (node_at a.id)) a.offset
