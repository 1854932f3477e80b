-- The definitions at a tree of two levels, checked line by line: the keys 0 to 8, inserted in order, make a root 2 with
-- the item 4 over the leaves 0, with the items 0 to 3, and 1, with the items 5 to 8.
use Rattle.btree_laws.proofs.Common.{◌≡◌, ℕ, zero, suc, ◌≤◌, List, [], ◌∷◌, ◌++◌, Some, None, refl, inl, inr, arith, nat_tests, IsStrictlySortedBy, nat_cmp, View, leaf, internal, NodeMap, size_of, most_of, Represents, numbers_under, represented, times_used, least_of, IsNearlySized, IsWellFormed, IsOffByOne, NOWHERE, IsSubtreeAt, IsPlace, IsValid, times_listed}
use Rattle.std.proofs.Common.{rules}

abbrev Pair : Type 0
Pair = ℕ × ℕ

abbrev lefts : List Pair
lefts = (0, 0) ∷ (1, 10) ∷ (2, 20) ∷ (3, 30) ∷ []

abbrev rights : List Pair
rights = (5, 50) ∷ (6, 60) ∷ (7, 70) ∷ (8, 80) ∷ []

abbrev all : List Pair
all = lefts ++ (4, 40) ∷ rights

abbrev tree : NodeMap Pair
tree zero = Some (leaf (Some 2) lefts)
tree (suc zero) = Some (leaf (Some 2) rights)
tree (suc (suc zero)) = Some (internal None 0 (((4, 40), 1) ∷ []))
tree (suc (suc (suc n))) = None

represents_tree : Represents tree 1 None 2 all
represents_tree = (0, lefts, ((4, 40), 1, rights) ∷ [], refl, refl, (refl, tt), refl)

sized_tree : (id : ℕ) (node : View Pair) → tree id ≡ Some node → (least_of 2 id ≤ size_of node) × (size_of node ≤ most_of node)
sized_tree zero node e = let i : leaf (Some 2) lefts ≡ node = cc in rw (← i) (omega arith, omega arith)
sized_tree (suc zero) node e = let i : leaf (Some 2) rights ≡ node = cc in rw (← i) (omega arith, omega arith)
sized_tree (suc (suc zero)) node e = let i : internal None 0 (((4, 40), 1) ∷ []) ≡ node = cc in rw (← i) (omega arith, omega arith)
sized_tree (suc (suc (suc n))) node e = absurd (cc)

once_tree : (n : ℕ) → times_listed n (numbers_under tree 1 2) ≡ times_used (tree n)
once_tree zero = refl
once_tree (suc zero) = refl
once_tree (suc (suc zero)) = refl
once_tree (suc (suc (suc n))) = grind (arith, nat_tests)

ascends_tree : IsStrictlySortedBy nat_cmp (0 ∷ 1 ∷ 2 ∷ 3 ∷ 4 ∷ 5 ∷ 6 ∷ 7 ∷ 8 ∷ [])
unfolding IsStrictlySortedBy
ascends_tree = search rules

-- it is well formed
pub well_formed : IsWellFormed nat_cmp tree (Some 2) 9 all
well_formed = record {
  ascends = ascends_tree;
  formed = record { height = 1; represents = represents_tree; sized = sized_tree; once = once_tree };
  counted = refl;
}

-- the places of the left leaf, the right leaf and the root in the list
left_subtree : IsSubtreeAt tree all 0 lefts 0
left_subtree = record { front = []; back = (4, 40) ∷ rights; subtree = record { height = 0; parent = Some 2; represents = refl }; split = refl; counted = refl }

right_subtree : IsSubtreeAt tree all 1 rights 5
right_subtree = record { front = lefts ++ (4, 40) ∷ []; back = []; subtree = record { height = 0; parent = Some 2; represents = refl }; split = refl; counted = refl }

root_subtree : IsSubtreeAt tree all 2 all 0
root_subtree = record { front = []; back = []; subtree = record { height = 1; parent = None; represents = represents_tree }; split = refl; counted = refl }

-- the places before each node's subtree
pub before_left : IsPlace tree (Some 2) all 0 None 0
before_left = (lefts, left_subtree)

pub before_right : IsPlace tree (Some 2) all 1 None 5
before_right = (rights, right_subtree)

pub before_root : IsPlace tree (Some 2) all 2 None 0
before_root = (all, root_subtree)

-- the places past each node's last item
pub after_left : IsPlace tree (Some 2) all 0 (Some 4) 4
after_left = inr (refl, (lefts, 0, left_subtree, refl))

pub after_right : IsPlace tree (Some 2) all 1 (Some 4) 9
after_right = inr (refl, (rights, 5, right_subtree, refl))

pub after_root : IsPlace tree (Some 2) all 2 (Some 1) 9
after_root = inr (refl, (all, 0, root_subtree, refl))

-- the places at an item of each node
pub at_left : IsPlace tree (Some 2) all 0 (Some 2) 2
at_left = inl refl

pub at_right : IsPlace tree (Some 2) all 1 (Some 0) 5
at_right = inl refl

pub at_root : IsPlace tree (Some 2) all 2 (Some 0) 4
at_root = inl refl

-- the list by the function `represented`
pub list_of_tree : represented tree 9 2 ≡ all
list_of_tree = refl

-- the empty tree: no nodes, and one address
abbrev nothing : NodeMap Pair
nothing n = None

pub well_formed_empty : IsWellFormed nat_cmp nothing None 0 []
unfolding IsStrictlySortedBy
well_formed_empty = record { ascends = tt; formed = (λ n. refl, refl); counted = refl }

pub at_nowhere : IsPlace nothing None [] NOWHERE (Some 0) 0
at_nowhere = ((refl, refl, refl), refl)

pub valid_nowhere : IsValid nothing None NOWHERE (Some 0)
valid_nowhere = inr (refl, refl, refl)

-- a root leaf without items, as a removal leaves it before it is freed: both its addresses have place 0
abbrev bare : NodeMap Pair
bare zero = Some (leaf None [])
bare (suc n) = None

bare_sized : (id : ℕ) (node : View Pair) → bare id ≡ Some node → IsNearlySized 0 0 id node
bare_sized zero node e = let i : leaf None [] ≡ node = cc in rw (← i) (omega arith, omega arith)
bare_sized (suc n) node e = absurd (cc)

bare_once : (n : ℕ) → times_listed n (numbers_under bare 0 0) ≡ times_used (bare n)
bare_once zero = refl
bare_once (suc n) = grind (arith, nat_tests)

pub off_by_one_bare : IsOffByOne nat_cmp bare 0 0 []
unfolding IsStrictlySortedBy
off_by_one_bare = record {
  ascends = tt;
  rooted = record { height = 0; represents = refl; sized = bare_sized; once = bare_once };
  low = omega arith;
  used = refl;
}

bare_subtree : IsSubtreeAt bare [] 0 [] 0
bare_subtree = record { front = []; back = []; subtree = record { height = 0; parent = None; represents = refl }; split = refl; counted = refl }

pub before_bare : IsPlace bare (Some 0) [] 0 None 0
before_bare = ([], bare_subtree)

pub after_bare : IsPlace bare (Some 0) [] 0 (Some 0) 0
after_bare = inr (refl, ([], 0, bare_subtree, refl))
