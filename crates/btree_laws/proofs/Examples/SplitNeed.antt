-- How many nodes splits need, checked by computing: leaf 1 under root 0, by their numbers of items.
use Rattle.btree_laws.proofs.Common.{◌≡◌, ◌∷◌, [], ℕ, zero, suc, List, Some, None, refl, NodeMap, internal, leaf, split_need}

abbrev eight : List ℕ
eight = 0 ∷ 1 ∷ 2 ∷ 3 ∷ 4 ∷ 5 ∷ 6 ∷ 7 ∷ []

abbrev six : List (ℕ × ℕ)
six = (10, 2) ∷ (20, 3) ∷ (30, 4) ∷ (40, 5) ∷ (50, 6) ∷ (60, 7) ∷ []

abbrev tree : List (ℕ × ℕ) → List ℕ → NodeMap ℕ
tree branches items zero = Some (internal None 1 branches)
tree branches items (suc n) = Some (leaf (Some 0) items)

abbrev alone : List ℕ → NodeMap ℕ
alone items n = Some (leaf None items)

-- nine items under a root of six: the right part alone; under a root of seven: a right part for each, and a new root
pub under_room : split_need (tree six (8 ∷ eight)) 5 1 ≡ 1
under_room = refl

pub under_full : split_need (tree ((70, 8) ∷ six) (8 ∷ eight)) 5 1 ≡ 3
under_full = refl

-- a root leaf of nine: its right part and a new root
pub root_leaf : split_need (alone (8 ∷ eight)) 5 1 ≡ 2
root_leaf = refl

-- a node with an item too few needs none
pub too_few : split_need (tree ((70, 8) ∷ six) (1 ∷ 2 ∷ [])) 5 1 ≡ 0
too_few = refl
