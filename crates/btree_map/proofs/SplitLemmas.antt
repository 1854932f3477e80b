-- A list in two parts at a start bound, of which the second one is moved from its end.
use Rattle.btree_map.proofs.Common.{◌≡◌, ◌∙◌, ◌+◌, ◌-◌, suc, Bool, true, false, not, ◌&&◌, List, [], ◌∷◌, ◌++◌, length, length-append, slice_get, Option, Some, None, IfSome, refl, sym, ap, arith, append_assoc, same_Some, entries_between, is_from_start, range_contains, IsTotalOrder, AllByRecursion, filter, Ordering, is_gt, is_le, Equal, Greater, Less, Bound, Unbounded, inserted, Rises, all-so, filter-earlier}
use Rattle.std.proofs.Common.{MatchOption}
use Rattle.btree_item.proofs.PairLemmas.{inserted-from_Err}
use Rattle.btree_laws.proofs.LookUp.KeyInList.{place-miss, reversed}
use Rattle.btree_walk.proofs.BoundLemmas.{filter-later, from-on}
use Rattle.btree_map.specs.Lists.{last_of}
use Rattle.btree_map.specs.Splitting.{AreBefore}

-- what a removal at the end says where it gave a pair
pub match-some : {X : Type 0} (r : Option X) (P : Type 0) (Q : X → Type 0) → MatchOption r P Q → IfSome r Q
match-some None P Q m = tt
match-some (Some x) P Q m = m

above-not : (o : Ordering) → is_gt o ≡ true → is_le o ≡ false
above-not Less e = absurd (cc)
above-not Equal e = absurd (cc)
above-not Greater e = refl

-- a key that is below another one is before its bound
pub below-before : {K V : Type 0} (cmp : K → K → Ordering) (k : K) (x y : K × V) (o : Ordering) → o ≡ cmp k x.0 → is_gt o ≡ true → Some x ≡ Some y
    → is_le (cmp k y.0) ≡ false
below-before {K} {V} cmp k x y o is above same =
    ap (λ (z : K × V). is_le (cmp k z.0)) (sym (same_Some x y same)) ∙ ap is_le (sym is) ∙ above-not o above

module _ {K V : Type 0} {cmp : K → K → Ordering} (laws : IsTotalOrder cmp) where
  -- a pair below all others is inserted before them
  pub inserted-front : (x : K × V) (xs : List (K × V)) → Rises cmp (x ∷ xs) → inserted cmp x.0 x.1 xs ≡ x ∷ xs
  inserted-front x xs up =
      let above = all-so (λ y. cmp x.0 y.0 ≡ Less) (λ y. cmp y.0 x.0 ≡ Greater) (λ y less. reversed laws x.0 y.0 less) xs up.0 in
      inserted-from_Err cmp x.0 x.1 xs 0 (place-miss cmp x.0 xs 0 ([], xs, refl, refl, tt, above)).0

  module _ (lo : Bound K) where
    -- all pairs are before a bound if the last one is
    pub all-before : (xs : List (K × V)) → Rises cmp xs → ((x : K × V) → last_of xs ≡ Some x → is_from_start cmp lo x.0 ≡ false) → AreBefore cmp lo xs
    all-before [] up last = tt
    all-before (x ∷ []) up last = (last x refl, tt)
    all-before (x ∷ y ∷ xs) up last =
        let end : length (x ∷ y ∷ xs) - 1 ≡ suc (length (y ∷ xs) - 1) = omega arith in
        by (is_from_start cmp lo x.0) refl (all-before (y ∷ xs) up.1 (λ z is. last z (ap (slice_get (x ∷ y ∷ xs)) end ∙ is)))
      where
        by : (b : Bool) → is_from_start cmp lo x.0 ≡ b → AreBefore cmp lo (y ∷ xs) → AreBefore cmp lo (x ∷ y ∷ xs)
        by true e later = absurd (let no : false ≡ true = sym later.0 ∙ from-on laws lo x.0 y.0 up.0.0 e in cc)
        by false e later = (e, later)

    module _ (xs kept moved : List (K × V)) (is : xs ≡ kept ++ moved) (out : AreBefore cmp lo kept)
        (pass : AllByRecursion (λ x. is_from_start cmp lo x.0 ≡ true) moved) where
      -- what was kept are the pairs before the bound, and what was moved those from it on
      pub kept-before : kept ≡ filter (λ x. not (is_from_start cmp lo x.0)) xs
      kept-before =
          sym (ap (filter (λ (x : K × V). not (is_from_start cmp lo x.0))) is
          ∙ filter-earlier (λ (x : K × V). not (is_from_start cmp lo x.0)) kept moved
          (all-so (λ x. is_from_start cmp lo x.0 ≡ false) (λ x. not (is_from_start cmp lo x.0) ≡ true) (λ x no. ap not no) kept out)
          (all-so (λ x. is_from_start cmp lo x.0 ≡ true) (λ x. not (is_from_start cmp lo x.0) ≡ false) (λ x p. ap not p) moved pass))

      pub moved-from : moved ≡ entries_between cmp lo Unbounded xs
      moved-from =
          sym (ap (entries_between cmp lo Unbounded) is
          ∙ filter-later (λ (x : K × V). range_contains cmp lo Unbounded x.0) kept moved
          (all-so (λ x. is_from_start cmp lo x.0 ≡ false) (λ x. range_contains cmp lo Unbounded x.0 ≡ false) (λ x no. ap (λ b. b && true) no) kept out)
          (all-so (λ x. is_from_start cmp lo x.0 ≡ true) (λ x. range_contains cmp lo Unbounded x.0 ≡ true) (λ x p. ap (λ b. b && true) p) moved pass))

-- one more pair was moved from the end
pub one-more : {X : Type 0} (old was now moved : List X) (x : X) → old ≡ was ++ moved → was ≡ now ++ x ∷ [] → old ≡ now ++ x ∷ moved
one-more old was now moved x split popped = split ∙ ap (λ l. l ++ moved) popped ∙ append_assoc now (x ∷ []) moved

-- if the first part is the whole list, the second one is empty
pub all-kept : {X : Type 0} (kept moved : List X) → kept ++ moved ≡ kept → moved ≡ []
all-kept kept [] e = refl
all-kept kept (x ∷ moved) e =
    let long : length kept + suc (length moved) ≡ length kept = sym (length-append kept (x ∷ moved)) ∙ ap length e in
    absurd (omega arith)
