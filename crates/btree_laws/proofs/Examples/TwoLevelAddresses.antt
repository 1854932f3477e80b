-- The lists of addresses of a tree of two levels, written out: root 2 with the item 4 over the leaves 0, with the items
-- 0 to 3, and 1, with the items 5 to 8; and those of the empty tree.
use Rattle.btree_laws.proofs.Common.{◌≡◌, [], ◌∷◌, Some, None, refl, ℕ, zero, suc, NodeMap, leaf, internal, backs_under, fronts_under, NOWHERE, address_before, address_at, back_after, front_before}
use Rattle.btree_laws.specs.Addresses.{item_addresses_under, leaf_backs_under}

abbrev tree : NodeMap ℕ
tree zero = Some (leaf (Some 2) (0 ∷ 1 ∷ 2 ∷ 3 ∷ []))
tree (suc zero) = Some (leaf (Some 2) (5 ∷ 6 ∷ 7 ∷ 8 ∷ []))
tree (suc (suc zero)) = Some (internal None 0 ((4, 1) ∷ []))
tree (suc (suc (suc n))) = None

pub item_addresses_of_base : item_addresses_under tree 2 (Some 2)
    ≡ address_at 0 0 ∷ address_at 0 1 ∷ address_at 0 2 ∷ address_at 0 3 ∷ address_at 2 0 ∷ address_at 1 0 ∷ address_at 1 1 ∷ address_at 1 2 ∷ address_at 1 3 ∷ []
item_addresses_of_base = refl

pub leaf_backs_of_base : leaf_backs_under tree 2 (Some 2)
    ≡ address_at 0 0 ∷ address_at 0 1 ∷ address_at 0 2 ∷ address_at 0 3 ∷ address_at 0 4 ∷ address_at 1 0 ∷ address_at 1 1 ∷ address_at 1 2 ∷ address_at 1 3 ∷ address_at 1 4 ∷ []
leaf_backs_of_base = refl

pub backs_of_base : backs_under tree 2 (Some 2)
    ≡ address_at 0 0 ∷ address_at 0 1 ∷ address_at 0 2 ∷ address_at 0 3 ∷ address_at 0 4 ∷ address_at 2 0
    ∷ address_at 1 0 ∷ address_at 1 1 ∷ address_at 1 2 ∷ address_at 1 3 ∷ address_at 1 4 ∷ address_at 2 1 ∷ []
backs_of_base = refl

pub fronts_of_base : fronts_under tree 2 (Some 2)
    ≡ address_before 2 ∷ address_before 0 ∷ address_at 0 0 ∷ address_at 0 1 ∷ address_at 0 2 ∷ address_at 0 3 ∷ address_at 2 0
    ∷ address_before 1 ∷ address_at 1 0 ∷ address_at 1 1 ∷ address_at 1 2 ∷ address_at 1 3 ∷ []
fronts_of_base = refl

-- more levels change nothing
pub backs_by_more : backs_under tree 9 (Some 2) ≡ backs_under tree 2 (Some 2)
backs_by_more = refl

-- a number of levels that is too low loses what is below
pub backs_by_one : backs_under tree 1 (Some 2) ≡ address_at 2 0 ∷ address_at 2 1 ∷ []
backs_by_one = refl

-- the next back address: in the left leaf; from its end to the root; from the root's item to the right leaf; and from
-- the root's end to none
pub back_after_item : back_after tree 2 (address_at 0 1) ≡ Some (address_at 0 2)
back_after_item = refl

pub back_after_leaf : back_after tree 2 (address_at 0 4) ≡ Some (address_at 2 0)
back_after_leaf = refl

pub back_after_inner : back_after tree 2 (address_at 2 0) ≡ Some (address_at 1 0)
back_after_inner = refl

pub back_after_right : back_after tree 2 (address_at 1 4) ≡ Some (address_at 2 1)
back_after_right = refl

pub back_after_all : back_after tree 2 (address_at 2 1) ≡ None
back_after_all = refl

-- the next front address backwards: in the right leaf to its -1; from there to the root; from the root's item to the
-- left leaf; from its -1 to the root's -1; and from there to none
pub front_before_item : front_before tree 2 (address_at 1 0) ≡ Some (address_before 1)
front_before_item = refl

pub front_before_right : front_before tree 2 (address_before 1) ≡ Some (address_at 2 0)
front_before_right = refl

pub front_before_inner : front_before tree 2 (address_at 2 0) ≡ Some (address_at 0 3)
front_before_inner = refl

pub front_before_left : front_before tree 2 (address_before 0) ≡ Some (address_before 2)
front_before_left = refl

pub front_before_all : front_before tree 2 (address_before 2) ≡ None
front_before_all = refl

abbrev nothing : NodeMap ℕ
nothing n = None

pub item_addresses_of_none : item_addresses_under nothing 2 None ≡ []
item_addresses_of_none = refl

pub leaf_backs_of_none : leaf_backs_under nothing 2 None ≡ address_at NOWHERE 0 ∷ []
leaf_backs_of_none = refl

pub backs_of_none : backs_under nothing 2 None ≡ []
backs_of_none = refl

pub fronts_of_none : fronts_under nothing 2 None ≡ []
fronts_of_none = refl
