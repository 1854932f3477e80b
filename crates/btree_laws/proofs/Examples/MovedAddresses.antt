-- The new addresses after each step, checked by computing at numbers. Left is node 10, right is 11, their parent is 9,
-- the item between them is at offset 2 (in a split node 10 is child 2 of node 9), left has 3 items (3 stay in a split),
-- and the first child of right, if it has one, is 20.
use Rattle.btree_laws.proofs.Common.{◌≡◌, Some, None, refl, moved_by_merge, moved_by_shrink_root, moved_by_rotate_left, moved_by_rotate_right, moved_by_split, moved_by_take, address_before, address_at}

-- a split: before the median, at it, after it; in the parent before the child index and from it on; elsewhere
pub split_front : moved_by_split 10 11 9 2 3 (address_before 10) ≡ address_before 10
split_front = refl

pub split_below : moved_by_split 10 11 9 2 3 (address_at 10 2) ≡ address_at 10 2
split_below = refl

pub split_median : moved_by_split 10 11 9 2 3 (address_at 10 3) ≡ address_at 9 2
split_median = refl

pub split_after : moved_by_split 10 11 9 2 3 (address_at 10 4) ≡ address_at 11 0
split_after = refl

pub split_end : moved_by_split 10 11 9 2 3 (address_at 10 8) ≡ address_at 11 4
split_end = refl

pub split_parent_front : moved_by_split 10 11 9 2 3 (address_before 9) ≡ address_before 9
split_parent_front = refl

pub split_parent_before : moved_by_split 10 11 9 2 3 (address_at 9 1) ≡ address_at 9 1
split_parent_before = refl

pub split_parent_at : moved_by_split 10 11 9 2 3 (address_at 9 2) ≡ address_at 9 3
split_parent_at = refl

pub split_parent_after : moved_by_split 10 11 9 2 3 (address_at 9 5) ≡ address_at 9 6
split_parent_after = refl

pub split_elsewhere : moved_by_split 10 11 9 2 3 (address_at 12 3) ≡ address_at 12 3
split_elsewhere = refl

-- a root leaf of 9 items under a new root 9: 4 stay
pub split_root_median : moved_by_split 10 11 9 0 4 (address_at 10 4) ≡ address_at 9 0
split_root_median = refl

pub split_root_end : moved_by_split 10 11 9 0 4 (address_at 10 9) ≡ address_at 11 4
split_root_end = refl

-- a rotation to the left
pub left_first : moved_by_rotate_left 10 11 9 2 3 None (address_at 11 0) ≡ address_at 9 2
left_first = refl

pub left_later : moved_by_rotate_left 10 11 9 2 3 None (address_at 11 4) ≡ address_at 11 3
left_later = refl

pub left_front_of_leaf : moved_by_rotate_left 10 11 9 2 3 None (address_before 11) ≡ address_at 9 2
left_front_of_leaf = refl

pub left_front_of_internal : moved_by_rotate_left 10 11 9 2 3 (Some 20) (address_before 11) ≡ address_before 20
left_front_of_internal = refl

pub left_separator : moved_by_rotate_left 10 11 9 2 3 None (address_at 9 2) ≡ address_at 10 3
left_separator = refl

pub left_taker : moved_by_rotate_left 10 11 9 2 3 None (address_at 10 3) ≡ address_at 10 3
left_taker = refl

-- a rotation to the right
pub right_last : moved_by_rotate_right 10 11 9 2 3 None (address_at 10 2) ≡ address_at 9 2
right_last = refl

pub right_end : moved_by_rotate_right 10 11 9 2 3 None (address_at 10 3) ≡ address_at 11 0
right_end = refl

pub right_separator : moved_by_rotate_right 10 11 9 2 3 None (address_at 9 2) ≡ address_at 11 0
right_separator = refl

pub right_taker : moved_by_rotate_right 10 11 9 2 3 None (address_at 11 0) ≡ address_at 11 1
right_taker = refl

pub right_front_of_leaf : moved_by_rotate_right 10 11 9 2 3 None (address_before 11) ≡ address_at 11 1
right_front_of_leaf = refl

pub right_front_of_internal : moved_by_rotate_right 10 11 9 2 3 (Some 20) (address_before 11) ≡ address_before 20
right_front_of_internal = refl

pub right_spares : moved_by_rotate_right 10 11 9 2 3 None (address_at 10 1) ≡ address_at 10 1
right_spares = refl

pub right_spares_front : moved_by_rotate_right 10 11 9 2 3 None (address_before 10) ≡ address_before 10
right_spares_front = refl

-- a merge
pub merge_separator : moved_by_merge 10 11 9 2 3 None (address_at 9 2) ≡ address_at 10 3
merge_separator = refl

pub merge_parent_after : moved_by_merge 10 11 9 2 3 None (address_at 9 5) ≡ address_at 9 4
merge_parent_after = refl

pub merge_right : moved_by_merge 10 11 9 2 3 None (address_at 11 2) ≡ address_at 10 6
merge_right = refl

pub merge_front_of_leaf : moved_by_merge 10 11 9 2 3 None (address_before 11) ≡ address_at 10 4
merge_front_of_leaf = refl

pub merge_front_of_internal : moved_by_merge 10 11 9 2 3 (Some 20) (address_before 11) ≡ address_before 20
merge_front_of_internal = refl

pub merge_parent_front : moved_by_merge 10 11 9 2 3 None (address_before 9) ≡ address_before 9
merge_parent_front = refl

-- shrinking the root 10, whose only child 11 has 4 items
pub release_front : moved_by_shrink_root 10 11 4 (address_before 10) ≡ address_before 11
release_front = refl

pub release_end : moved_by_shrink_root 10 11 4 (address_at 10 0) ≡ address_at 11 4
release_end = refl

pub release_elsewhere : moved_by_shrink_root 10 11 4 (address_at 12 1) ≡ address_at 12 1
release_elsewhere = refl

-- the item at offset 2 of leaf 10 is removed
pub take_front : moved_by_take 10 2 (address_before 10) ≡ address_before 10
take_front = refl

pub take_before : moved_by_take 10 2 (address_at 10 1) ≡ address_at 10 1
take_before = refl

pub take_itself : moved_by_take 10 2 (address_at 10 2) ≡ address_at 10 2
take_itself = refl

pub take_after : moved_by_take 10 2 (address_at 10 3) ≡ address_at 10 2
take_after = refl

pub take_elsewhere : moved_by_take 10 2 (address_at 12 3) ≡ address_at 12 3
take_elsewhere = refl
