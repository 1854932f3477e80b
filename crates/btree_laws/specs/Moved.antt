-- What an address becomes when a step of rebalancing moves items: one plain function of the address for each step.
-- No step changes the place of an address or the item at it, and an offset other than -1 stays one.
-- That each step keeps the place and the item of every address is proved in `proofs/Splits/KeptPositions.antt` (splits)
-- and `proofs/Underflow/TreeAddresses.antt` (rotations, merges, a shrunk root); `proofs/Examples/MovedAddresses.antt`
-- has each line at given numbers. `moved_by_take` is no such step: each address after the removed item has one place
-- less (`take-later` in `proofs/Removal/FromTree.antt`).
use Rattle.std.specs.Prelude.{ℕ, zero, suc, ◌+◌, ◌-◌, ◌==◌, nat_lt, if◌then◌else◌, Option, Some, None}
use Rattle.btree_item.specs.Address.{Address}
use Rattle.btree_view.specs.View.{View, leaf, internal}
use Rattle.btree_laws.specs.Place.{NOWHERE}
use Rattle.btree_laws.specs.Focus.Positions.{address_before, address_at}

-- one of three values, by whether n is below, equal to or above m
abbrev pub select_by_order : {X : Type 0} → (n m : ℕ) → (below equal above : X) → X
select_by_order n m below equal above = if nat_lt n m then below else (if n == m then equal else above)

-- in the split node, which keeps `kept` items: those stay, the median goes up between the two parts, and what is after
-- it is in the right part
abbrev pub node_after_split : (left right parent index kept : ℕ) → Option ℕ → Address
node_after_split left right parent index kept None = address_before left
node_after_split left right parent index kept (Some offset) =
    select_by_order offset kept (address_at left offset) (address_at parent index) (address_at right (offset - suc kept))

-- in the parent of the split node, which has one item more
abbrev pub parent_after_split : (parent index : ℕ) → Option ℕ → Address
parent_after_split parent index None = address_before parent
parent_after_split parent index (Some offset) = if nat_lt offset index then address_at parent offset else address_at parent (offset + 1)

-- node `left`, child `index` of `parent`, is split, and its right part is node `right`; any other address stays
abbrev pub moved_by_split : (left right parent index kept : ℕ) → Address → Address
moved_by_split left right parent index kept a =
    if a.id == left then node_after_split left right parent index kept a.offset
    else (if a.id == parent then parent_after_split parent index a.offset else a)

-- In the steps below `left` and `right` are adjacent children of `parent`, with its item at offset `index` between
-- them; `count` is the number of items of `left` before the step, `child` the first child of `right`, if it has one.

-- offset -1 of a node that has lost its first child becomes that child's -1; in a leaf it becomes another address
abbrev pub before_child_or : (child : Option ℕ) → (other : Address) → Address
before_child_or None other = other
before_child_or (Some child) other = address_before child

-- the address of the separator goes where the separator goes, and the parent's other addresses stay
abbrev pub at_separator : (parent index : ℕ) → (to : Address) → Option ℕ → Address
at_separator parent index to None = address_before parent
at_separator parent index to (Some offset) = if offset == index then to else address_at parent offset

-- rotation to the left: the first item of `right` goes up to the parent, whose item goes to the end of `left`
abbrev pub right_after_lending : (right parent index : ℕ) → (child : Option ℕ) → Option ℕ → Address
right_after_lending right parent index child None = before_child_or child (address_at parent index)
right_after_lending right parent index child (Some zero) = address_at parent index
right_after_lending right parent index child (Some (suc offset)) = address_at right offset

abbrev pub moved_by_rotate_left : (left right parent index count : ℕ) → (child : Option ℕ) → Address → Address
moved_by_rotate_left left right parent index count child a =
    if a.id == right then right_after_lending right parent index child a.offset
    else (if a.id == parent then at_separator parent index (address_at left count) a.offset else a)

-- rotation to the right: the last item of `left` goes up to the parent, whose item goes to the front of `right`
abbrev pub left_after_lending : (left right parent index count : ℕ) → Option ℕ → Address
left_after_lending left right parent index count None = address_before left
left_after_lending left right parent index count (Some offset) =
    select_by_order (suc offset) count (address_at left offset) (address_at parent index) (address_at right 0)

abbrev pub right_after_borrowing : (right : ℕ) → (child : Option ℕ) → Option ℕ → Address
right_after_borrowing right child None = before_child_or child (address_at right 1)
right_after_borrowing right child (Some offset) = address_at right (1 + offset)

abbrev pub moved_by_rotate_right : (left right parent index count : ℕ) → (child : Option ℕ) → Address → Address
moved_by_rotate_right left right parent index count child a =
    if a.id == left then left_after_lending left right parent index count a.offset
    else (if a.id == right then right_after_borrowing right child a.offset
    else (if a.id == parent then at_separator parent index (address_at right 0) a.offset else a))

-- merge: the separator goes to the end of `left`, and all of `right` after it; the parent has one item less
abbrev pub right_after_merge : (left count : ℕ) → (child : Option ℕ) → Option ℕ → Address
right_after_merge left count child None = before_child_or child (address_at left (suc count))
right_after_merge left count child (Some offset) = address_at left (suc count + offset)

abbrev pub parent_after_merge : (left parent index count : ℕ) → Option ℕ → Address
parent_after_merge left parent index count None = address_before parent
parent_after_merge left parent index count (Some offset) =
    select_by_order offset index (address_at parent offset) (address_at left count) (address_at parent (offset - 1))

abbrev pub moved_by_merge : (left right parent index count : ℕ) → (child : Option ℕ) → Address → Address
moved_by_merge left right parent index count child a =
    if a.id == right then right_after_merge left count child a.offset
    else (if a.id == parent then parent_after_merge left parent index count a.offset else a)

-- shrinking the root: an internal root without items is freed; its only child, with `count` items, becomes the root
abbrev pub root_after_shrinking : (child count : ℕ) → Option ℕ → Address
root_after_shrinking child count None = address_before child
root_after_shrinking child count (Some offset) = address_at child count

abbrev pub moved_by_shrink_root : (root child count : ℕ) → Address → Address
moved_by_shrink_root root child count a = if a.id == root then root_after_shrinking child count a.offset else a

-- a root leaf without items is freed: each of its addresses becomes nowhere
abbrev pub moved_by_emptying : Address → Address
moved_by_emptying a = record { id = NOWHERE; offset = Some 0 }

-- the item at an offset of a leaf is removed: what is after it in that leaf moves left by one
abbrev pub in_shortened : (leaf_id offset : ℕ) → Option ℕ → Address
in_shortened leaf_id offset None = address_before leaf_id
in_shortened leaf_id offset (Some other) =
    select_by_order other offset (address_at leaf_id other) (address_at leaf_id offset) (address_at leaf_id (other - 1))

abbrev pub moved_by_take : (leaf_id offset : ℕ) → Address → Address
moved_by_take leaf_id offset a = if a.id == leaf_id then in_shortened leaf_id offset a.offset else a

-- the number of a node's first child, if it has one
abbrev pub first_in : {A : Type 0} → View A → Option ℕ
first_in (leaf parent items) = None
first_in (internal parent first branches) = Some first
