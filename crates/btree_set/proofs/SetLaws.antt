-- What callers conclude of a set: which element is stored after one was inserted or removed.
use Rattle.std.proofs.Common.{◌≡◌, ◌∙◌, ◌+◌, ℕ, zero, suc, Bool, true, false, cond, List, [], ◌∷◌, Option, Some, None, is_some, if◌then◌else◌, refl, sym, ap, arith, subst, ◌⊎◌, inl, inr, Ordering}
use Rattle.std.proofs.lemmas.Bool.{cases_Bool}
use Rattle.std.specs.Cmp.{IsTotalOrder, tied_itself}
use Rattle.std.specs.List.{AllByRecursion, find, insert, remove}
use Rattle.std.specs.List.Sorted.{IsStrictlySortedBy}
use Rattle.std.specs.Ordering.{is_eq, is_lt}
use Rattle.std.specs.declared.cmp.Ordering.TheVariants.{Less, Equal, Greater}
use Rattle.btree_item.specs.Keys.{Cuts}
use Rattle.btree_item.specs.KeyLaws.{cuts_of}
use Rattle.btree_item.proofs.KeyLemmas.{count_by-cons}
use Rattle.btree_map.proofs.LookUpLaws.{at_query, equal-from}
use Rattle.btree_set.specs.Elements.{IsInTree, SetState, before, inserted, removed, stored}

-- ---- by a test
module _ {T : Type 0} (test : T → Bool) where
  first : (b : Bool) (x : T) (xs : List T) → test x ≡ b → find test (x ∷ xs) ≡ cond b (Some x) (find test xs)
  first b x xs is = ap (λ c. cond c (Some x) (find test xs)) is

  put-beside : (xs : List T) (i : ℕ) (x : T) → test x ≡ false → find test (insert xs i x) ≡ find test xs
  put-beside xs zero x is = first false x xs is
  put-beside [] (suc i) x is = first false x [] is
  put-beside (y ∷ ys) (suc i) x is = ap (λ o. cond (test y) (Some y) o) (put-beside ys i x is)

  put-here : (xs : List T) (i : ℕ) (x : T) → test x ≡ true → is_some (find test (insert xs i x)) ≡ true
  put-here xs zero x is = ap is_some (first true x xs is)
  put-here [] (suc i) x is = ap is_some (first true x [] is)
  put-here (y ∷ ys) (suc i) x is = by (test y) (put-here ys i x is)
    where
      by : (b : Bool) → is_some (find test (insert ys i x)) ≡ true → is_some (cond b (Some y) (find test (insert ys i x))) ≡ true
      by true later = refl
      by false later = later

  -- a list without one element that does not pass
  taken-beside : (xs : List T) (i : ℕ) (x : T) (rest : List T) → test x ≡ false → xs ≡ insert rest i x → find test rest ≡ find test xs
  taken-beside xs i x rest is same = sym (put-beside rest i x is) ∙ ap (find test) (sym same)

module _ {T Q : Type 0} {ord : T → T → Ordering} (cmp : T → Q → Ordering) (cuts : Cuts ord cmp) (q : Q) where
  abbrev AreAbove : List T → Type 0
  AreAbove ys = AllByRecursion (λ y. cmp y q ≡ Greater) ys

  is-above : (x : T) (o : Ordering) → cmp x q ≡ o → is_lt o ≡ false → (ys : List T) → AllByRecursion (λ y. ord x y ≡ Less) ys → AreAbove ys
  is-above x o is not [] up = tt
  is-above x o is not (y ∷ ys) up = (cuts.above q x y (ap is_lt is ∙ not) up.0, is-above x o is not ys up.1)

  none-above : (ys : List T) → AreAbove ys → stored cmp q ys ≡ None
  none-above [] up = refl
  none-above (y ∷ ys) up = ap (λ o. cond (is_eq o) (Some y) (stored cmp q ys)) up.0 ∙ none-above ys up.1

  none-below : (ys : List T) → AreAbove ys → before cmp q ys ≡ 0
  none-below [] up = refl
  none-below (y ∷ ys) up = count_by-cons (λ z. is_lt (cmp z q)) y ys ∙ ap (λ o. cond (is_lt o) 1 0 + before cmp q ys) up.0 ∙ ap (λ n. 0 + n) (none-below ys up.1)

  -- what is removed is equal to the query, and nothing that is left is
  record Removes (xs : List T) : Type 0 where
    pub element : T
    pub equal : is_eq (cmp element q) ≡ true
    pub back : xs ≡ insert (remove xs (before cmp q xs)) (before cmp q xs) element
    pub none : stored cmp q (remove xs (before cmp q xs)) ≡ None

  removes : (xs : List T) → IsStrictlySortedBy ord xs → is_some (stored cmp q xs) ≡ true → Removes xs
  unfolding IsStrictlySortedBy
  removes [] up some = absurd (cc)
  removes (x ∷ xs) up some = by (cmp x q) refl (removes xs up.1)
    where
      at : (o : Ordering) → cmp x q ≡ o → before cmp q (x ∷ xs) ≡ cond (is_lt o) 1 0 + before cmp q xs
      at o e = count_by-cons (λ z. is_lt (cmp z q)) x xs ∙ ap (λ p. cond (is_lt p) 1 0 + before cmp q xs) e

      by : (o : Ordering) → cmp x q ≡ o → (is_some (stored cmp q xs) ≡ true → Removes xs) → Removes (x ∷ xs)
      by Less e later =
          let some-later : is_some (stored cmp q xs) ≡ true = sym (ap (λ o. is_some (cond (is_eq o) (Some x) (stored cmp q xs))) e) ∙ some in
          let r = later some-later in
          let place : before cmp q (x ∷ xs) ≡ suc (before cmp q xs) = let next : 1 + before cmp q xs ≡ suc (before cmp q xs) = omega arith in at Less e ∙ next in
          record {
            element = r.element;
            equal = r.equal;
            back = ap (λ l. x ∷ l) r.back ∙ ap (λ n. insert (remove (x ∷ xs) n) n r.element) (sym place);
            none = ap (λ n. stored cmp q (remove (x ∷ xs) n)) place ∙ first (at_query cmp q) false x (remove xs (before cmp q xs)) (ap is_eq e) ∙ r.none;
          }
      by Equal e later =
          let above = is-above x Equal e refl xs up.0 in
          let place : before cmp q (x ∷ xs) ≡ 0 = at Equal e ∙ ap (λ n. 0 + n) (none-below xs above) in
          record {
            element = x;
            equal = ap is_eq e;
            back = ap (λ n. insert (remove (x ∷ xs) n) n x) (sym place);
            none = ap (λ n. stored cmp q (remove (x ∷ xs) n)) place ∙ none-above xs above;
          }
      by Greater e later =
          let none = none-above xs (is-above x Greater e refl xs up.0) in
          let some-later : is_some (stored cmp q xs) ≡ true = sym (ap (λ o. is_some (cond (is_eq o) (Some x) (stored cmp q xs))) e) ∙ some in
          absurd (cc)

  module _ (xs : List T) (up : IsStrictlySortedBy ord xs) where
    -- nothing is equal to a query once what was is removed
    pub removed-here : stored cmp q (removed cmp q xs) ≡ None
    removed-here = by (cases_Bool (is_some (stored cmp q xs)))
      where
        absent : (o : Option T) → stored cmp q xs ≡ o → is_some (stored cmp q xs) ≡ false → stored cmp q xs ≡ None
        absent None e none = e
        absent (Some x) e none = absurd (let h = ap is_some e in cc)

        by : (is_some (stored cmp q xs) ≡ true) ⊎ (is_some (stored cmp q xs) ≡ false) → stored cmp q (removed cmp q xs) ≡ None
        by (inl some) = ap (λ b. stored cmp q (if b then remove xs (before cmp q xs) else xs)) some ∙ (removes xs up some).none
        by (inr none) = ap (λ b. stored cmp q (if b then remove xs (before cmp q xs) else xs)) none ∙ absent (stored cmp q xs) refl none

    -- what is equal to another one stays, if nothing is equal to both
    pub removed-apart : {R : Type 0} (other : T → R → Ordering) (r : R) → ((x : T) → is_eq (cmp x q) ≡ true → is_eq (other x r) ≡ false)
        → stored other r (removed cmp q xs) ≡ stored other r xs
    removed-apart other r apart = by (cases_Bool (is_some (stored cmp q xs)))
      where
        by : (is_some (stored cmp q xs) ≡ true) ⊎ (is_some (stored cmp q xs) ≡ false) → stored other r (removed cmp q xs) ≡ stored other r xs
        by (inl some) =
            let t = removes xs up some in
            ap (λ b. stored other r (if b then remove xs (before cmp q xs) else xs)) some
            ∙ taken-beside (at_query other r) xs (before cmp q xs) t.element (remove xs (before cmp q xs)) (apart t.element t.equal) t.back
        by (inr none) = ap (λ b. stored other r (if b then remove xs (before cmp q xs) else xs)) none

-- ---- for elements
module _ {T : Type 0} {ord : T → T → Ordering} (o : IsTotalOrder ord) (x : T) (xs : List T) where
  at_itself : is_eq (ord x x) ≡ true
  at_itself = ap is_eq (tied_itself o x)

  -- an element that was inserted is there
  pub inserted-element : is_some (stored ord x (inserted ord x xs)) ≡ true
  inserted-element = by (cases_Bool (is_some (stored ord x xs)))
    where
      by : (is_some (stored ord x xs) ≡ true) ⊎ (is_some (stored ord x xs) ≡ false) → is_some (stored ord x (inserted ord x xs)) ≡ true
      by (inl some) = ap (λ b. is_some (stored ord x (if b then xs else insert xs (before ord x xs) x))) some ∙ some
      by (inr none) = ap (λ b. is_some (stored ord x (if b then xs else insert xs (before ord x xs) x))) none ∙ put-here (at_query ord x) xs (before ord x xs) x at_itself

  -- another one is there if it was
  pub inserted-beside : (y : T) → is_eq (ord x y) ≡ false → stored ord y (inserted ord x xs) ≡ stored ord y xs
  inserted-beside y apart = by (cases_Bool (is_some (stored ord x xs)))
    where
      by : (is_some (stored ord x xs) ≡ true) ⊎ (is_some (stored ord x xs) ≡ false) → stored ord y (inserted ord x xs) ≡ stored ord y xs
      by (inl some) = ap (λ b. stored ord y (if b then xs else insert xs (before ord x xs) x)) some
      by (inr none) = ap (λ b. stored ord y (if b then xs else insert xs (before ord x xs) x)) none ∙ put-beside (at_query ord y) xs (before ord x xs) x apart

  -- an element that was removed is not there
  pub removed-element : IsStrictlySortedBy ord xs → stored ord x (removed ord x xs) ≡ None
  removed-element up = removed-here ord (cuts_of o) x xs up

  -- another one is there if it was
  pub removed-beside : (y : T) → is_eq (ord x y) ≡ false → IsStrictlySortedBy ord xs → stored ord y (removed ord x xs) ≡ stored ord y xs
  removed-beside y apart up = removed-apart ord (cuts_of o) x xs up ord y (λ z at. ap is_eq (o.congr z x y (equal-from (ord z x) at)) ∙ apart)

-- the elements ascend
pub elements-ascend : {T : Type 0} (cmp : T → T → Ordering) (s : SetState T) → IsInTree cmp s → IsStrictlySortedBy cmp s.elements
elements-ascend cmp s is = subst (IsStrictlySortedBy cmp) (sym (ap (λ t. t.elements) is.same)) is.tree.ascends

pub ruleset set_laws = (inserted-element, inserted-beside, removed-element, removed-beside, elements-ascend)
