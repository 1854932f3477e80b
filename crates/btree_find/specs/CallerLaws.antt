-- What callers conclude from the words of look-up and navigation: the pair at an address, its key, and the place of the
-- next item.
use Rattle.std.proofs.Common.{◌≡◌, ◌∙◌, ℕ, suc, Bool, true, false, List, [], ◌∷◌, slice_get, Option, Some, None, option_and_then, refl, sym, subst}
use Rattle.std.specs.Ordering.{is_eq}
use Rattle.std.specs.declared.cmp.Ordering.{Ordering}
use Rattle.std.specs.declared.cmp.Ordering.TheVariants.{Equal, Greater, Less}
use Rattle.btree_item.specs.Pairs.{found}
use Rattle.btree_item.specs.Address.{Address}
use Rattle.btree_view.specs.View.{item_in}
use Rattle.btree_laws.specs.Place.{IsOccupied}
use Rattle.btree_laws.specs.TreeState.{TreeState, IsOccupiedIn, item_of, node_map, pairs_of}
use Rattle.btree_find.specs.Navigation.{IsItemAddress, IsItemAt, IsNext}

-- a list without a first element is empty
pub none-first : {X : Type 0} (xs : List X) → None ≡ slice_get xs 0 → xs ≡ []
none-first [] e = refl
none-first (x ∷ xs) e = absurd (cc)

-- the ordering that `is_eq` is true of is `Equal`
pub equal-by : (o : Ordering) → is_eq o ≡ true → o ≡ Equal
equal-by Less e = absurd (cc)
equal-by Equal e = refl
equal-by Greater e = absurd (cc)

module _ {K Q V : Type 0} (cmp : K → Q → Ordering) (k : Q) where
  equal-first : (b : Bool) (y : K × V) (ys : List (K × V)) (x : K × V) → is_eq (cmp y.0 k) ≡ b → found cmp k (y ∷ ys) ≡ Some x
      → (found cmp k ys ≡ Some x → cmp x.0 k ≡ Equal) → cmp x.0 k ≡ Equal
  equal-first true y ys x is e later =
      let here : Some y ≡ Some x = rw is at e in
      let same : y ≡ x = cc in
      subst (λ (z : K × V). cmp z.0 k ≡ Equal) same (equal-by (cmp y.0 k) is)
  equal-first false y ys x is e later = later (rw is at e)

  -- the pair that is found by a key or another query has a key that is equal to it
  pub found-equal : (xs : List (K × V)) (x : K × V) → found cmp k xs ≡ Some x → cmp x.0 k ≡ Equal
  found-equal [] x e = absurd (cc)
  found-equal (y ∷ ys) x e = equal-first (is_eq (cmp y.0 k)) y ys x refl e (found-equal ys x)

module _ {K V : Type 0} (s : TreeState K V) where
  -- at an occupied address there is an item
  pub not-vacant : (a : Address) → IsOccupiedIn s a → item_of s a ≡ None → ⊥
  not-vacant a = by a.offset
    where
      by : (o : Option ℕ) → IsOccupied (node_map s) a.id o → option_and_then (item_in (node_map s a.id)) o ≡ None → ⊥
      by None is none = is
      by (Some n) is none = let e = is.1 in absurd (cc)

  -- the pair at the address of an item, which the list has at its place
  pub pair-there : (place : ℕ) (a : Address) → IsItemAddress s place a
      → (x : K × V) × (slice_get (pairs_of s) place ≡ Some x) × (item_of s a ≡ Some x)
  pair-there place a here = by (item_of s a) refl
    where
      by : (o : Option (K × V)) → item_of s a ≡ o → (x : K × V) × (slice_get (pairs_of s) place ≡ Some x) × (item_of s a ≡ Some x)
      by None e = absurd (not-vacant a here.occupied e)
      by (Some x) e = (x, sym here.item ∙ e, e)

  -- the pair that was read at the address of the item at a place is the list's pair there
  pub pair-read : (place : ℕ) (at : Option Address) (a : Address) → IsItemAt s place at → at ≡ Some a → (x : K × V)
      → Some x ≡ item_of s a → slice_get (pairs_of s) place ≡ Some x
  pair-read place at a item is x read =
      let there : IsItemAt s place (Some a) = subst (IsItemAt s place) is item in
      sym there.here.item ∙ sym read

  -- the item after the one at a place is at the next place
  pub next-place : (place : ℕ) (at next : Option Address) (a : Address) → IsItemAt s place at → at ≡ Some a → IsNext s a next
      → IsItemAt s (suc place) next
  next-place place at next a item is n =
      let there : IsItemAt s place (Some a) = subst (IsItemAt s place) is item in
      let itself : place ≡ n.place = n.has.only place there.here.has.at in
      subst (λ q. IsItemAt s (suc q) next) (sym itself) (n.after there.here.occupied)

pub ruleset find_laws = (none-first, found-equal, not-vacant, pair-there, pair-read, next-place)
