-- The positions of the tree under a root, whatever the focus, and the public definitions for an address of that tree.
use Rattle.std.specs.Prelude.{◌≡◌, ◌≢◌, ℕ, suc, ◌⊎◌, List, [], ◌∷◌, Option, Some, None}
use Rattle.btree_item.specs.Address.{Address}
use Rattle.btree_view.specs.View.{NodeMap}
use Rattle.btree_laws.specs.Place.{IsValid, IsPlace, item_at}
use Rattle.btree_laws.specs.Focus.Subtree.{Subtree, id_of, Holds}
use Rattle.btree_laws.specs.Focus.Positions.{Position, mark, over, IsExpected, IsAt, positions}

-- among the positions of the tree under a root the address has this place, and the item `expected` is at it if one is
-- expected
pub record HasPosition (A : Type 0) (node_at : NodeMap A) (root : ℕ) (expected : Option A) (a : Address) (place : ℕ) : Type 0 where
  pub height : ℕ
  pub subtree : Subtree A height
  pub at_root : id_of A height subtree ≡ root
  pub holds : Holds A node_at height None subtree
  pub there : IsAt expected a (positions A height subtree) place

-- the address occurs after `place` items, before the first occurrence of address c
abbrev pub IsAtBefore : {A : Type 0} → Option A → Address → (c : Address) → List (Position A) → ℕ → Type 0
IsAtBefore expected a c [] place = ⊥
IsAtBefore expected a c (mark b item ∷ later) place =
    (b ≢ c) × (((a ≡ b) × (place ≡ 0) × IsExpected expected item) ⊎ IsAtBefore expected a c later place)
IsAtBefore expected a c (over ∷ later) place = (rest : ℕ) × (place ≡ suc rest) × IsAtBefore expected a c later rest

-- in the public terms: the address is valid and has this place in the list, and the item `expected` is at it if one is
-- expected
pub record IsAddressed (A : Type 0) (node_at : NodeMap A) (root : ℕ) (xs : List A) (expected : Option A) (a : Address)
    (place : ℕ) : Type 0 where
  pub valid : IsValid node_at (Some root) a.id a.offset
  pub at_place : IsPlace node_at (Some root) xs a.id a.offset place
  pub item : IsExpected expected (item_at node_at a)
