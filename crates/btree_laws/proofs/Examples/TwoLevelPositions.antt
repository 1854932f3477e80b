-- The positions of a tree of two levels, written out: root 2 with the item 4 over the leaves 0, with the items 0 to 3,
-- and 1, with the items 5 to 8.
use Rattle.btree_laws.proofs.Common.{◌≡◌, ℕ, List, [], ◌∷◌, ◌++◌, Some, None, refl, Subtree, Position, mark, over, address_before, address_at, positions, passed}

abbrev base : Subtree ℕ 1
base = (2, (0, 0 ∷ 1 ∷ 2 ∷ 3 ∷ []), (4, (1, 5 ∷ 6 ∷ 7 ∷ 8 ∷ [])) ∷ [])

abbrev left_leaf : List (Position ℕ)
left_leaf =
    mark (address_before 0) None
    ∷ mark (address_at 0 0) (Some 0) ∷ over ∷ mark (address_at 0 1) (Some 1) ∷ over
    ∷ mark (address_at 0 2) (Some 2) ∷ over ∷ mark (address_at 0 3) (Some 3) ∷ over
    ∷ mark (address_at 0 4) None ∷ []

abbrev right_leaf : List (Position ℕ)
right_leaf =
    mark (address_before 1) None
    ∷ mark (address_at 1 0) (Some 5) ∷ over ∷ mark (address_at 1 1) (Some 6) ∷ over
    ∷ mark (address_at 1 2) (Some 7) ∷ over ∷ mark (address_at 1 3) (Some 8) ∷ over
    ∷ mark (address_at 1 4) None ∷ []

-- the root's -1, the left leaf, the root's item, the right leaf, and past the root's last item
pub positions_of_base : positions ℕ 1 base ≡ mark
    (address_before 2) None ∷ (left_leaf ++ (mark (address_at 2 0) (Some 4) ∷ over ∷ (right_leaf ++ (mark (address_at 2 1) None ∷ []))))
positions_of_base = refl

-- each item is passed once
pub passed_of_base : passed (positions ℕ 1 base) ≡ 9
passed_of_base = refl
