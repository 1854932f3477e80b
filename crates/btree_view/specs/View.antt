-- A node as definitions see it, and the map of nodes of a store.
-- The definitions of trees are about a `NodeMap` alone, so they hold for any store and for any representation of a
-- node. `view_of` of `btree_node` gives the view of a `Node`; `leaf_view` and `internal_view` give those of the two
-- kinds. A branch is an item of an internal node with the child after it.
use Rattle.std.specs.Prelude.{◌≡◌, ℕ, ◌+◌, ◌-◌, List, [], ◌∷◌, drop, length, map, slice_get, Option, Some, None}
use Rattle.std.specs.Option.{option_and_then, option_map}
use Rattle.btree_item.specs.declared.TheConstants.{MAX_INTERNAL_ITEMS, MAX_LEAF_ITEMS}

-- a leaf: its parent's number and its items; an internal node: its parent's number, its first child's, and its items,
-- each with the number of the child after it
pub data View (A : Type 0) : Type 0 where
  leaf : Option ℕ → List A → View A
  internal : Option ℕ → ℕ → List (A × ℕ) → View A

-- the map of nodes of a store: the node under each number that is used
abbrev pub NodeMap : Type 0 → Type 0
NodeMap A = ℕ → Option (View A)

module _ {A : Type 0} where
  -- the number of the node above, if there is one
  abbrev pub parent_of : View A → Option ℕ
  parent_of (leaf parent items) = parent
  parent_of (internal parent first branches) = parent

  -- the items, in order
  abbrev pub items_of : View A → List A
  items_of (leaf parent items) = items
  items_of (internal parent first branches) = map (λ b. b.0) branches

  -- the numbers of the children, in order
  abbrev pub children_of : View A → List ℕ
  children_of (leaf parent items) = []
  children_of (internal parent first branches) = first ∷ map (λ b. b.1) branches

  -- the items of an internal node, each with the child after it
  abbrev pub branches_of : View A → List (A × ℕ)
  branches_of (leaf parent items) = []
  branches_of (internal parent first branches) = branches

  -- how many items there are
  abbrev pub size_of : View A → ℕ
  size_of node = length (items_of node)

  -- the most items of such a node in a well formed tree; a change may leave one more for a while
  abbrev pub most_of : View A → ℕ
  most_of (leaf parent items) = MAX_LEAF_ITEMS
  most_of (internal parent first branches) = MAX_INTERNAL_ITEMS

  -- the item at an offset; none at -1
  abbrev pub item_at_offset : View A → Option ℕ → Option A
  item_at_offset node offset = option_and_then (slice_get (items_of node)) offset

  -- the child before the item at an offset; none at -1
  abbrev pub child_before_offset : View A → Option ℕ → Option ℕ
  child_before_offset node offset = option_and_then (slice_get (children_of node)) offset

  -- the child after the item at an offset; none at -1
  abbrev pub child_after_offset : View A → Option ℕ → Option ℕ
  child_after_offset node offset = option_and_then (λ index. slice_get (children_of node) (index + 1)) offset

  -- the last item; none if there is no item
  abbrev pub last_item_of : View A → Option A
  last_item_of node = slice_get (items_of node) (size_of node - 1)

  -- the last child; none in a leaf
  abbrev pub last_child_of : View A → Option ℕ
  last_child_of node = slice_get (children_of node) (size_of node)

  -- the branches from an index on begin with this one, or there are none if none is given
  abbrev pub BeginsAt : View A → ℕ → Option (A × ℕ) → Type 0
  BeginsAt node index None = drop index (branches_of node) ≡ []
  BeginsAt node index (Some branch) = drop index (branches_of node) ≡ branch ∷ drop (index + 1) (branches_of node)

  -- the item at an offset of a node, if there is one
  abbrev pub item_in : Option (View A) → ℕ → Option A
  item_in None offset = None
  item_in (Some node) offset = slice_get (items_of node) offset

  -- the children of a node, if there is one
  abbrev pub children_in : Option (View A) → List ℕ
  children_in None = []
  children_in (Some node) = children_of node

-- the value at an offset; none at -1
abbrev pub value_at_offset : {K V : Type 0} → View (K × V) → Option ℕ → Option V
value_at_offset node offset = option_map (λ x. x.1) (item_at_offset node offset)
