-- The positions of a tree by a focus agree with the public definitions for addresses and places. Edits by address will
-- cite what nothing cites yet.
use Rattle.btree_laws.proofs.Common.{◌≡◌, ◌<◌, ◌≤◌, ◌∷◌, [], ◌∙◌, ℕ, zero, suc, inl, inr, List, length, Option, Some, None, refl, arith, option_and_then, slice_get, Address, NodeMap, View, item_in, items_of, IsAddressed, IsPlace, IsValid, IsWithin, Subtree, IsExpected, IsAt, all_positions, Path, times_used, IsFocus}
use Rattle.btree_laws.proofs.Places.OfTree.{whole-addressed, whole-on}
use Rattle.btree_laws.proofs.Trees.Stores.{within-used}

module _ {A : Type 0} (node_at : NodeMap A) where
  get-low : (xs : List A) (o : ℕ) (x : A) → slice_get xs o ≡ Some x → o ≤ length xs
  get-low [] o x e = absurd (cc)
  get-low (y ∷ xs) zero x e = omega arith
  get-low (y ∷ xs) (suc o) x e = let r = get-low xs o x e in omega arith

  -- the offset of an item is within the node
  pub item-within : (o : ℕ) (x : A) (v : Option (View A)) → item_in v o ≡ Some x → IsWithin node_at v (Some o)
  item-within o x None e = absurd (cc)
  item-within o x (Some v) e = get-low (items_of v) o x e

module _ (A : Type 0) (node_at : NodeMap A) (root : ℕ) (xs : List A) where
  -- the address is one of the tree, with this place; if an item is expected, it is at it
  pub record AddressIn (expected : Option A) (a : Address) (p : ℕ) : Type 0 where
    pub used : 0 < times_used (node_at a.id)
    pub within : IsWithin node_at (node_at a.id) a.offset
    pub place : IsPlace node_at (Some root) xs a.id a.offset p
    pub item : (x : A) → expected ≡ Some x → (o : ℕ) × (a.offset ≡ Some o) × (item_in (node_at a.id) o ≡ Some x)

  valid-within : (id : ℕ) (o : Option ℕ) → IsValid node_at (Some root) id o → IsWithin node_at (node_at id) o
  valid-within id o (inl l) = l
  valid-within id o (inr n) = let e = n.0 in absurd (cc)

  expected-item : (expected : Option A) (id : ℕ) (offset : Option ℕ) → IsExpected expected (option_and_then (item_in (node_at id)) offset) → (x : A)
      → expected ≡ Some x → (o : ℕ) × (offset ≡ Some o) × (item_in (node_at id) o ≡ Some x)
  expected-item None id offset m x e = absurd (cc)
  expected-item (Some y) id None m x e = absurd (cc)
  expected-item (Some y) id (Some o) m x e = (o, refl, m ∙ e)

  pub addressed-in : (expected : Option A) (a : Address) (p : ℕ) → IsAddressed A node_at root xs expected a p
      → AddressIn expected a p
  addressed-in expected a p d =
      let l = valid-within a.id a.offset d.valid in
      record {
        used = within-used node_at (node_at a.id) a.offset l;
        within = l;
        place = d.at_place;
        item =
            expected-item expected a.id a.offset d.item;
      }

  -- each address at a position is one of the tree, with the place that it has in the positions
  pub address-in : (h : ℕ) (c : Path A h) (t : Subtree A h) → IsFocus A node_at [] root xs h c t
      → (expected : Option A) (a : Address) (p : ℕ) → IsAt expected a (all_positions A h c t) p → AddressIn expected a p
  address-in h c t w expected a p i = addressed-in expected a p
      (whole-addressed A node_at [] root xs expected a p h c t w (whole-on A node_at [] root xs expected a p h c t w i))
