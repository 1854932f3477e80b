-- A pair of an ascending list replaced by one whose key lies between its neighbours.
use Rattle.btree_ext.proofs.Common.{◌≡◌, ◌<◌, ◌≤◌, ◌∙◌, ℕ, zero, suc, List, [], ◌∷◌, length, set, Some, slice_get, refl, sym, ap, subst, arith, slice_get_within, IsTotalOrder, insert, remove, Ordering, Address, TreeState, Changes, IsBTree, pairs_of, IsExchanged, IsKeyExchanged}
use Rattle.std.proofs.lemmas.List.Edits.{length-remove}
use Rattle.std.specs.declared.cmp.Ordering.TheVariants.{Less}
use Rattle.btree_item.specs.Pairs.{Ascends, KeyFits}
use Rattle.btree_item.proofs.PairEdits.{Ascends-insert}
use Rattle.btree_laws.proofs.LookUp.KeyInList.{Rises, rises}
use Rattle.btree_laws.proofs.Removal.FromTree.{Ascends-remove}
use Rattle.btree_find.specs.Fits.{KeyReplaces, ReplacesAt}
use Rattle.btree_ext.proofs.ExchangeLemmas.{ExchangesAt, at-place, exchanged, listed, place-on, stood-at}

module _ {X : Type 0} where
  get-below_removed : (xs : List X) (p q : ℕ) → suc q ≤ p → slice_get (remove xs p) q ≡ slice_get xs q
  get-below_removed [] zero q low = absurd (omega arith)
  get-below_removed [] (suc p) zero low = refl
  get-below_removed [] (suc p) (suc q) low = refl
  get-below_removed (x ∷ xs) zero q low = absurd (omega arith)
  get-below_removed (x ∷ xs) (suc p) zero low = refl
  get-below_removed (x ∷ xs) (suc p) (suc q) low = get-below_removed xs p q (omega arith)

  get-at_removed : (xs : List X) (p : ℕ) → slice_get (remove xs p) p ≡ slice_get xs (suc p)
  get-at_removed [] zero = refl
  get-at_removed [] (suc p) = refl
  get-at_removed (x ∷ xs) zero = refl
  get-at_removed (x ∷ xs) (suc p) = get-at_removed xs p

  pub set-as_insert : (xs : List X) (p : ℕ) (y : X) → p < length xs → insert (remove xs p) p y ≡ set xs p y
  set-as_insert [] p y low = absurd (omega arith)
  set-as_insert (x ∷ xs) zero y low = refl
  set-as_insert (x ∷ xs) (suc p) y low = ap (λ l. x ∷ l) (set-as_insert xs p y (omega arith))

module _ {K V : Type 0} (cmp : K → K → Ordering) (laws : IsTotalOrder cmp) where
  -- the key fits where the pair was
  pub replaces-fits : (k : K) (p : ℕ) (xs : List (K × V)) → KeyReplaces cmp k p xs → KeyFits cmp k p (remove xs p)
  replaces-fits k p xs r =
      let w = r.within in
      let n = length-remove xs p r.within in
      record {
        within = omega arith;
        above = λ q x next at. r.above q x next (sym (get-below_removed xs p q (omega arith)) ∙ at);
        below = λ x at. r.below x (sym (get-at_removed xs p) ∙ at);
      }

  -- a key of an ascending list is above the one before it
  rises-next : (xs : List (K × V)) (q : ℕ) (x y : K × V) → Rises cmp xs → slice_get xs q ≡ Some x → slice_get xs (suc q) ≡ Some y
      → cmp x.0 y.0 ≡ Less
  rises-next [] q x y up at next = absurd (cc)
  rises-next (z ∷ []) zero x y up at next = absurd (cc)
  rises-next (z ∷ w ∷ xs) zero x y up at next =
      let a : z ≡ x = cc in
      let b : w ≡ y = cc in
      subst (λ t. cmp x.0 t.0 ≡ Less) b (subst (λ t. cmp t.0 w.0 ≡ Less) a up.0.0)
  rises-next (z ∷ xs) (suc q) x y up at next = rises-next xs q x y up.1 at next

  -- so the key of a removed pair fits where it was
  pub fits-removed : (xs : List (K × V)) (p : ℕ) (x : K × V) → Ascends cmp xs → slice_get xs p ≡ Some x → KeyFits cmp x.0 p (remove xs p)
  fits-removed xs p x up at =
      let r = rises cmp xs up in
      replaces-fits x.0 p xs (record {
        within = slice_get_within xs p x at;
        above = λ q y next there. rises-next xs q y x r there (ap (slice_get xs) next ∙ at);
        below = λ y there. rises-next xs p x y r at there;
      })

  pub Ascends-set : (k : K) (w : V) (p : ℕ) (xs : List (K × V)) (x : K × V) → slice_get xs p ≡ Some x → Ascends cmp xs → KeyReplaces cmp k p xs
      → Ascends cmp (set xs p (k, w))
  Ascends-set k w p xs x at up r =
      subst (λ l. Ascends cmp l) (set-as_insert xs p (k, w) r.within)
      (Ascends-insert cmp laws k w p (remove xs p) (Ascends-remove cmp xs p x at up) (replaces-fits k p xs r))

  pub pair-exchanged : (old new : TreeState K V) (a : Address) (was : K × V) (k : K) (w : V) → IsBTree cmp old → ReplacesAt cmp k old a
      → Changes (λ p q. ExchangesAt p q a was (k, w)) old new → IsExchanged old new a cmp (k, w)
  pair-exchanged old new a was k w tree r x =
      let at = place-on cmp laws old new a was (k, w) tree x in
      let same = r.has.only at.0 (at-place cmp laws old new a was (k, w) tree x) in
      exchanged cmp laws old new a was (k, w) tree x
      (Ascends-set k w at.0 (pairs_of old) was (listed cmp laws old new a was (k, w) tree x) tree.ascends
      (subst (λ p. KeyReplaces cmp k p (pairs_of old)) (sym same) r.replaces))

  pub key-exchanged : (old new : TreeState K V) (a : Address) (was : K × V) (k : K) → IsBTree cmp old → ReplacesAt cmp k old a
      → Changes (λ p q. ExchangesAt p q a was (k, was.1)) old new → IsKeyExchanged old new a cmp was.0 k
  key-exchanged old new a was k tree r x =
      let e = pair-exchanged old new a was k was.1 tree r x in
      let had = stood-at cmp laws old new a was (k, was.1) tree x in
      record { value = was.1; had = had; exchanged = e; listed = sym e.here.item ∙ had }
