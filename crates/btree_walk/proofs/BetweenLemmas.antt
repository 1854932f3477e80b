-- The part of a list between two bounds, where its keys ascend: the list in parts at a key.
use Rattle.btree_walk.proofs.Common.{[], ◌≡◌, List, ◌∷◌, ◌++◌, Bool, true, false, refl, sym, subst, ◌∙◌, append_assoc, entries_between, range_contains, IsTotalOrder, AllByRecursion, Ordering, Equal, Greater, Less, Included, Unbounded, cuts_of, AllByRecursion-append, AreAbove, AreBelow, Rises, rises-right, side}
use Rattle.btree_laws.proofs.LookUp.KeyInList.{equal-back, equal-front}
use Rattle.btree_walk.proofs.BoundLemmas.{filter-earlier, filter-later}

module _ {X : Type 0} (test : X → Bool) where
  -- all of the elements pass the test
  abbrev pub Pass : List X → Type 0
  Pass xs = AllByRecursion (λ x. test x ≡ true) xs

  -- all of the elements fail it
  abbrev pub Fail : List X → Type 0
  Fail xs = AllByRecursion (λ x. test x ≡ false) xs

module _ {K V : Type 0} (cmp : K → K → Ordering) (k : K) (laws : IsTotalOrder cmp) where
  abbrev pub from_key : K × V → Bool
  from_key x = range_contains cmp (Included k) Unbounded x.0

  abbrev pub up_to_key : K × V → Bool
  up_to_key x = range_contains cmp Unbounded (Included k) x.0

  turned-less : (x : K × V) → side cmp k x ≡ Less → cmp k x.0 ≡ Greater
  turned-less x e = let r = laws.antisymm k x.0 in rw e at r

  turned-greater : (x : K × V) → side cmp k x ≡ Greater → cmp k x.0 ≡ Less
  turned-greater x e = let r = laws.antisymm k x.0 in rw e at r

  turned-equal : (x : K × V) → side cmp k x ≡ Equal → cmp k x.0 ≡ Equal
  turned-equal x e = let r = laws.antisymm k x.0 in rw e at r

  below-fail : (xs : List (K × V)) → AreBelow cmp k xs → Fail from_key xs
  below-fail [] low = tt
  below-fail (x ∷ xs) low = (rw (turned-less x low.0) refl, below-fail xs low.1)

  below-pass : (xs : List (K × V)) → AreBelow cmp k xs → Pass up_to_key xs
  below-pass [] low = tt
  below-pass (x ∷ xs) low = (rw (turned-less x low.0) refl, below-pass xs low.1)

  above-pass : (xs : List (K × V)) → AreAbove cmp k xs → Pass from_key xs
  above-pass [] high = tt
  above-pass (x ∷ xs) high = (rw (turned-greater x high.0) refl, above-pass xs high.1)

  above-fail : (xs : List (K × V)) → AreAbove cmp k xs → Fail up_to_key xs
  above-fail [] high = tt
  above-fail (x ∷ xs) high = (rw (turned-greater x high.0) refl, above-fail xs high.1)

  module _ (whole : List (K × V)) where
    -- the key is not in the list
    module _ (xs ys : List (K × V)) (is : whole ≡ xs ++ ys) (low : AreBelow cmp k xs) (high : AreAbove cmp k ys) where
      pub from-miss : ys ≡ entries_between cmp (Included k) Unbounded whole
      from-miss = rw is (sym (filter-later from_key xs ys (below-fail xs low) (above-pass ys high)))

      pub up_to-miss : xs ≡ entries_between cmp Unbounded (Included k) whole
      up_to-miss = rw is (sym (filter-earlier up_to_key xs ys (below-pass xs low) (above-fail ys high)))

    -- x has the key
    module _ (up : Rises cmp whole) (xs : List (K × V)) (x : K × V) (ys : List (K × V)) (is : whole ≡ xs ++ x ∷ ys) (same : side cmp k x ≡ Equal) where
      rise : Rises cmp (xs ++ x ∷ ys)
      rise = subst (λ l. Rises cmp l) is up

      pub below-hit : AreBelow cmp k xs
      below-hit = equal-front cmp k (cuts_of laws) xs x ys rise same

      pub above-hit : AreAbove cmp k ys
      above-hit = equal-back cmp k (cuts_of laws) x ys (rises-right cmp xs (x ∷ ys) rise).0 same

      pub from-hit : x ∷ ys ≡ entries_between cmp (Included k) Unbounded whole
      from-hit =
          let here : from_key x ≡ true = rw (turned-equal x same) refl in
          rw is (sym (filter-later from_key xs (x ∷ ys) (below-fail xs below-hit) (here, above-pass ys above-hit)))

      pub up_to-hit : xs ++ x ∷ [] ≡ entries_between cmp Unbounded (Included k) whole
      up_to-hit =
          let here : up_to_key x ≡ true = rw (turned-equal x same) refl in
          let pass : Pass up_to_key (xs ++ x ∷ []) =
          AllByRecursion-append (λ y. up_to_key y ≡ true) xs (x ∷ []) (below-pass xs below-hit) (here, tt) in
          rw (is ∙ sym (append_assoc xs (x ∷ []) ys))
          (sym (filter-earlier up_to_key (xs ++ x ∷ []) ys pass (above-fail ys above-hit)))
