-- What calls on a node leave of it, and how full a node is.
-- In an internal node, an item is inserted and removed together with the child after it, or at the front together with
-- the child before it. A child is given exactly for an internal node (`HasChildFor`). A split keeps 4 items in a leaf
-- and 3 in an internal node (`IsSplit`).
use Rattle.std.specs.Prelude.{◌≡◌, ℕ, ◌+◌, ◌-◌, ◌<◌, ◌≤◌, List, [], ◌∷◌, ◌++◌, length, map, set, Option, Some, None, is_some, Bool, true, false}
use Rattle.std.specs.List.{insert, remove, zip}
use Rattle.btree_item.specs.declared.TheConstants.{INTERNAL_MEDIAN, LEAF_MEDIAN, MIN_ITEMS}
use Rattle.btree_view.specs.declared.balance.Balance.{Balance}
use Rattle.btree_view.specs.Balances.{balance_with}
use Rattle.btree_view.specs.View.{View, leaf, internal, items_of, size_of, most_of}

module _ {A : Type 0} where
  -- with another parent
  abbrev pub with_parent : Option ℕ → View A → View A
  with_parent parent (leaf old items) = leaf parent items
  with_parent parent (internal old first branches) = internal parent first branches

  -- the node with other items: a leaf with any number of them, an internal node with as many as before,
  -- or with none and its first child alone
  abbrev pub with_items : List A → View A → View A
  with_items xs (leaf parent items) = leaf parent xs
  with_items xs (internal parent first branches) = internal parent first (zip xs (map (λ b. b.1) branches))

  -- what is left of a node after what it held moved into an empty leaf: a leaf keeps its parent, and an internal node
  -- becomes the leaf that the other was
  abbrev pub left_behind : View A → View A → View A
  left_behind (leaf parent items) part = leaf parent []
  left_behind (internal parent first branches) part = part

  abbrev pub is_internal : View A → Bool
  is_internal (leaf parent items) = false
  is_internal (internal parent first branches) = true

  -- a child is given exactly if the node is an internal node
  abbrev pub HasChildFor : Option ℕ → View A → Type 0
  HasChildFor child node = is_some child ≡ is_internal node

  -- with an item inserted at an index, and in an internal node the child inserted after it
  abbrev pub with_item : ℕ → A → Option ℕ → View A → View A
  with_item index x child (leaf parent items) = leaf parent (insert items index x)
  with_item index x None (internal parent first branches) = internal parent first branches
  with_item index x (Some child) (internal parent first branches) = internal parent first (insert branches index (x, child))

  -- the same at an offset; at -1 nothing is inserted
  abbrev pub with_item_at : Option ℕ → A → Option ℕ → View A → View A
  with_item_at None x child node = node
  with_item_at (Some index) x child node = with_item index x child node

  -- without the item at an index, and in an internal node without the child after it
  abbrev pub without : ℕ → View A → View A
  without index (leaf parent items) = leaf parent (remove items index)
  without index (internal parent first branches) = internal parent first (remove branches index)

  -- the same at an offset; at -1 nothing is removed
  abbrev pub without_at : Option ℕ → View A → View A
  without_at None node = node
  without_at (Some index) node = without index node

  -- without the last item, and in an internal node without the last child
  abbrev pub without_last : View A → View A
  without_last node = without (size_of node - 1) node

  -- with another item at an index; the children stay
  abbrev pub with_other_item : ℕ → A → View A → View A
  with_other_item index x node = with_items (set (items_of node) index x) node

  -- the same at an offset; at -1 nothing is replaced
  abbrev pub with_other_item_at : Option ℕ → A → View A → View A
  with_other_item_at None x node = node
  with_other_item_at (Some index) x node = with_other_item index x node

  -- with an item before the others, and in an internal node a child before the others
  abbrev pub pushed_left : A → Option ℕ → View A → View A
  pushed_left x child (leaf parent items) = leaf parent (x ∷ items)
  pushed_left x None (internal parent first branches) = internal parent first branches
  pushed_left x (Some child) (internal parent first branches) = internal parent child ((x, first) ∷ branches)

  -- with an item after the others, and in an internal node a child after the others
  abbrev pub pushed_right : A → Option ℕ → View A → View A
  pushed_right x child (leaf parent items) = leaf parent (items ++ x ∷ [])
  pushed_right x None (internal parent first branches) = internal parent first branches
  pushed_right x (Some child) (internal parent first branches) = internal parent first (branches ++ (x, child) ∷ [])

  -- the node is the rest with this item, and this child if there is one, before its own
  abbrev pub PopsLeft : View A → View A → A × Option ℕ → Type 0
  PopsLeft node rest popped = node ≡ pushed_left popped.0 popped.1 rest

  -- the node is the rest with this item, and this child if there is one, after its own
  abbrev pub PopsRight : View A → View A → Option ℕ × A × Option ℕ → Type 0
  PopsRight node rest popped = node ≡ pushed_right popped.1 popped.2 rest

  -- an item followed by an internal node: the item with the first child, and then the node's branches
  abbrev pub behind : A → View A → List (A × ℕ)
  behind x (leaf parent items) = []
  behind x (internal parent first branches) = (x, first) ∷ branches

  -- with a separator and then what a node of the same kind holds, after the others
  abbrev pub joined : View A → A → View A → View A
  joined (leaf parent items) x other = leaf parent (items ++ x ∷ items_of other)
  joined (internal parent first branches) x other = internal parent first (branches ++ behind x other)

  -- the two nodes, with a separator between them, hold at most one item more than one node of a well formed tree
  abbrev pub HaveRoom : View A → View A → Type 0
  HaveRoom node other = size_of node + size_of other ≤ most_of node

  -- the node has more items than the fewest that it must keep
  abbrev pub HasSpare : View A → Type 0
  HasSpare node = MIN_ITEMS < size_of node

  -- the node has more items than a node of a well formed tree
  abbrev pub IsOverflowing : View A → Type 0
  IsOverflowing node = most_of node < size_of node

  -- the node has fewer items than a node of a well formed tree other than the root
  abbrev pub IsUnderflowing : View A → Type 0
  IsUnderflowing node = size_of node < MIN_ITEMS

  -- how the number of items compares with what a node of a well formed tree other than the root has
  abbrev pub balance_of : View A → Balance
  balance_of node = balance_with (most_of node) (size_of node)

  -- a node in two parts with the median between them, which is the item at that index; the right part has the same
  -- parent, and if it is an internal node, it begins with the child after the median
  abbrev pub IsSplit : View A → A → View A → View A → Type 0
  IsSplit (leaf parent items) median left right =
      (front : List A) × (back : List A)
      × (items ≡ front ++ median ∷ back) × (length front ≡ LEAF_MEDIAN)
      × (left ≡ leaf parent front) × (right ≡ leaf parent back)
  IsSplit (internal parent first branches) median left right =
      (front : List (A × ℕ)) × (middle : ℕ) × (back : List (A × ℕ))
      × (branches ≡ front ++ (median, middle) ∷ back) × (length front ≡ INTERNAL_MEDIAN)
      × (left ≡ internal parent first front) × (right ≡ internal parent middle back)
