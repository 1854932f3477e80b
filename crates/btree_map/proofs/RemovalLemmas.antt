-- Removals at both ends of the list.
use Rattle.btree_map.proofs.Common.{◌≡◌, ◌∙◌, ◌-◌, ◌∷◌, ◌++◌, [], List, ℕ, zero, suc, length, slice_get, Some, None, refl, sym, ap, subst, arith, remove, Ordering, Address, TreeState, pairs_of}
use Rattle.std.proofs.lemmas.Option.{slice_get_past}
use Rattle.btree_node.proofs.RoomLemmas.{none-last}
use Rattle.btree_find.specs.CallerLaws.{none-first}
use Rattle.btree_find.specs.Ends.{IsFirstItem, IsLastItem}
use Rattle.btree_find.specs.Navigation.{IsItemAddress, IsItemBefore}
use Rattle.btree_ext.specs.Remove.{IsRemoved}
use Rattle.btree_map.specs.Removal.{RemovesPlace}

first-rest : {X : Type 0} (xs : List X) (x : X) → Some x ≡ slice_get xs 0 → xs ≡ x ∷ remove xs 0
first-rest [] x e = absurd (cc)
first-rest (y ∷ ys) x e = let same : x ≡ y = cc in rw same refl

last-rest : {X : Type 0} (xs : List X) (x : X) → Some x ≡ slice_get xs (length xs - 1) → xs ≡ remove xs (length xs - 1) ++ x ∷ []
last-rest [] x e = absurd (cc)
last-rest (y ∷ []) x e = let same : x ≡ y = cc in rw same refl
last-rest (y ∷ z ∷ zs) x e =
    let less : length (y ∷ z ∷ zs) - 1 ≡ suc (length (z ∷ zs) - 1) = omega arith in
    let at : Some x ≡ slice_get (y ∷ z ∷ zs) (suc (length (z ∷ zs) - 1)) = subst (λ n. Some x ≡ slice_get (y ∷ z ∷ zs) n) less e in
    rw less (ap (λ l. y ∷ l) (last-rest (z ∷ zs) x at))

module _ {K V : Type 0} (old : TreeState K V) where
  -- without a first pair, or a last one, there are no pairs
  pub no-first : IsFirstItem old None → pairs_of old ≡ []
  no-first is = none-first (pairs_of old) (sym (slice_get_past (pairs_of old) 0 (is.item.past refl)))

  before-none : (n : ℕ) → length (pairs_of old) ≡ n → IsItemBefore old n None → None ≡ slice_get (pairs_of old) (n - 1)
  before-none zero long is =
      let first : 0 ≡ zero - 1 = omega arith in
      subst (λ (p : ℕ). None ≡ slice_get (pairs_of old) p) first (sym (slice_get_past (pairs_of old) 0 (omega arith)))
  before-none (suc n) long is =
      let last : n ≡ suc n - 1 = omega arith in
      subst (λ (p : ℕ). None ≡ slice_get (pairs_of old) p) last (sym (slice_get_past (pairs_of old) n (is.past refl)))

  pub last-none : IsLastItem old None → None ≡ slice_get (pairs_of old) (length (pairs_of old) - 1)
  last-none is = before-none (length (pairs_of old)) refl is.item

  before-some : (n : ℕ) (a : Address) → IsItemBefore old n (Some a) → IsItemAddress old (n - 1) a
  before-some zero a is = absurd (cc)
  before-some (suc n) a is =
      let last : n ≡ suc n - 1 = omega arith in
      subst (λ (p : ℕ). IsItemAddress old p a) last is.here

  pub no-last : IsLastItem old None → pairs_of old ≡ []
  no-last is = none-last (pairs_of old) (last-none is)

  pub last-some : (a : Address) → IsLastItem old (Some a) → IsItemAddress old (length (pairs_of old) - 1) a
  last-some a is = before-some (length (pairs_of old)) a is.item

  -- the pair at an address of this place was removed
  module _ (new : TreeState K V) (cmp : K → K → Ordering) (place : ℕ) (a b : Address) (x : K × V) (here : IsItemAddress old place a)
      (removed : IsRemoved old new cmp a x b) where
    same : removed.place ≡ place
    same = here.has.only removed.place removed.has.at

    pub removed-pair : Some x ≡ slice_get (pairs_of old) place
    removed-pair = sym (subst (λ p. slice_get (pairs_of old) p ≡ Some x) same removed.listed)

    pub removes-place : RemovesPlace old new cmp place x
    removes-place = record {
      at = a;
      here = here;
      after = b;
      removed = removed;
      pairs = removed.pairs ∙ ap (remove (pairs_of old)) same;
    }

    -- it was the first one
    pub first-removed : place ≡ 0 → pairs_of old ≡ x ∷ pairs_of new
    first-removed first =
        let at : Some x ≡ slice_get (pairs_of old) 0 = subst (λ n. Some x ≡ slice_get (pairs_of old) n) first removed-pair in
        first-rest (pairs_of old) x at ∙ ap (λ l. x ∷ l) (sym (removes-place.pairs ∙ ap (remove (pairs_of old)) first))

    -- it was the last one
    pub last-removed : place ≡ length (pairs_of old) - 1 → pairs_of old ≡ pairs_of new ++ x ∷ []
    last-removed last =
        let at : Some x ≡ slice_get (pairs_of old) (length (pairs_of old) - 1) = subst (λ n. Some x ≡ slice_get (pairs_of old) n) last removed-pair in
        last-rest (pairs_of old) x at ∙ ap (λ l. l ++ x ∷ []) (sym (removes-place.pairs ∙ ap (remove (pairs_of old)) last))
