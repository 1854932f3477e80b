-- A rising list without the pairs between two bounds.
use Rattle.btree_map.proofs.Common.{◌≡◌, ◌∙◌, suc, ◌+◌, Bool, true, false, not, ◌&&◌, List, [], ◌∷◌, ◌++◌, length, length-append, arith, slice_get, Option, Some, None, IfSome, refl, sym, ap, subst, append_assoc, same_Some, entries_between, is_from_start, is_past_end, range_contains, IsTotalOrder, AllByRecursion, filter, Ordering, Less, Bound, Unbounded, Rises, all-so, filter-earlier}
use Rattle.std.proofs.Common.{IfNone}
use Rattle.std.proofs.lemmas.List.Elements.{filter-append}
use Rattle.btree_laws.proofs.LookUp.KeyInList.{rises-right}
use Rattle.btree_laws.proofs.Paths.Frames.{AllByRecursion-left}
use Rattle.btree_walk.proofs.BoundLemmas.{filter-all, filter-none, from-start, past-on, start-cut}
use Rattle.btree_map.specs.Removal.{pairs_outside}

module _ {A : Type 0} where
  both : (P Q : A → Type 0) (xs : List A) → AllByRecursion P xs → AllByRecursion Q xs → AllByRecursion (λ x. P x × Q x) xs
  both P Q [] p q = tt
  both P Q (x ∷ xs) p q = ((p.0, q.0), both P Q xs p.1 q.1)

  pub append-one : (P : A → Type 0) (xs : List A) (x : A) → AllByRecursion P xs → P x → AllByRecursion P (xs ++ x ∷ [])
  append-one P [] x all is = (is, tt)
  append-one P (y ∷ xs) x all is = (all.0, append-one P xs x all.1 is)

  pub not-empty : (xs : List A) (x : A) → xs ++ x ∷ [] ≡ [] → ⊥
  not-empty [] x e = cc
  not-empty (y ∷ xs) x e = cc

  -- what is between the same front and the same rest is nothing
  pub none-between : (front gone rest : List A) → front ++ rest ≡ front ++ (gone ++ rest) → gone ≡ []
  none-between front [] rest e = refl
  none-between front (x ∷ gone) rest e =
      let long : length front + length rest ≡ length front + suc (length (gone ++ rest)) = sym (length-append front rest) ∙ ap length e ∙ length-append front (x ∷ gone ++ rest) in
      let more = length-append gone rest in
      absurd (omega arith)

and-false : (a : Bool) → not (a && false) ≡ true
and-false true = refl
and-false false = refl

module _ {K V : Type 0} {cmp : K → K → Ordering} (laws : IsTotalOrder cmp) (lo hi : Bound K) where
  abbrev test : K × V → Bool
  test x = not (range_contains cmp lo hi x.0)

  all-past : (left : List (K × V)) → Rises cmp left → ((x : K × V) → slice_get left 0 ≡ Some x → is_past_end cmp hi x.0 ≡ true)
      → AllByRecursion (λ x. is_past_end cmp hi x.0 ≡ true) left
  all-past [] up first = tt
  all-past (x ∷ left) up first =
      let past = first x refl in
      (past, all-so (λ y. cmp x.0 y.0 ≡ Less) (λ y. is_past_end cmp hi y.0 ≡ true) (λ y less. past-on laws hi x.0 y.0 less past) left up.0)

  pub left-over : (xs gone left : List (K × V)) → Rises cmp xs → entries_between cmp lo Unbounded xs ≡ gone ++ left
      → AllByRecursion (λ x. is_past_end cmp hi x.0 ≡ false) gone → ((x : K × V) → slice_get left 0 ≡ Some x → is_past_end cmp hi x.0 ≡ true)
      → filter (λ x. not (is_from_start cmp lo x.0)) xs ++ left ≡ pairs_outside cmp lo hi xs
  left-over xs gone left up is until first =
      let cut = start-cut laws lo xs up in
      let inside : cut.inside ≡ gone ++ left = sym (from-start laws xs up lo) ∙ is in
      let up_all : Rises cmp (cut.outside ++ (gone ++ left)) = subst (λ l. Rises cmp l) (cut.is ∙ ap (λ l. cut.outside ++ l) inside) up in
      let up_left : Rises cmp left = rises-right cmp gone left (rises-right cmp cut.outside (gone ++ left) up_all) in
      let pass : AllByRecursion (λ x. is_from_start cmp lo x.0 ≡ true) (gone ++ left) = subst (λ l. AllByRecursion (λ x. is_from_start cmp lo x.0 ≡ true) l) inside cut.pass in
      let pass_gone = AllByRecursion-left (λ x. is_from_start cmp lo x.0 ≡ true) gone left pass in
      let front : filter test cut.outside ≡ cut.outside = filter-all test cut.outside
      (all-so (λ x. is_from_start cmp lo x.0 ≡ false) (λ x. test x ≡ true) (λ x no. ap (λ b. not (b && not (is_past_end cmp hi x.0))) no) cut.outside cut.out) in
      let none : filter test gone ≡ [] = filter-none test gone
      (all-so (λ x. (is_from_start cmp lo x.0 ≡ true) × (is_past_end cmp hi x.0 ≡ false)) (λ x. test x ≡ false)
      (λ x p. λ i. not (p.0 i && not (p.1 i))) gone (both _ _ gone pass_gone until)) in
      let rest : filter test left ≡ left = filter-all test left
      (all-so (λ x. is_past_end cmp hi x.0 ≡ true) (λ x. test x ≡ true)
      (λ x p. ap (λ b. not (is_from_start cmp lo x.0 && not b)) p ∙ and-false (is_from_start cmp lo x.0)) left (all-past left up_left first)) in
      let before : filter (λ x. not (is_from_start cmp lo x.0)) xs ≡ cut.outside =
      ap (λ l. filter (λ x. not (is_from_start cmp lo x.0)) l) cut.is
      ∙ filter-earlier (λ x. not (is_from_start cmp lo x.0)) cut.outside cut.inside
      (all-so (λ x. is_from_start cmp lo x.0 ≡ false) (λ x. not (is_from_start cmp lo x.0) ≡ true) (λ x no. ap not no) cut.outside cut.out)
      (all-so (λ x. is_from_start cmp lo x.0 ≡ true) (λ x. not (is_from_start cmp lo x.0) ≡ false) (λ x p. ap not p) cut.inside cut.pass) in
      ap (λ l. l ++ left) before
      ∙ sym (ap (λ l. filter test l) (cut.is ∙ ap (λ l. cut.outside ++ l) inside)
      ∙ filter-append test cut.outside (gone ++ left)
      ∙ (λ i. front i ++ filter-append test gone left i)
      ∙ (λ i. cut.outside ++ (none i ++ rest i)))

-- the first element, which was seen, is the one that was removed
pub removes-first : {X : Type 0} (R P : X → Type 0) (xs : List X) (first : X) (r : Option X) → Some first ≡ slice_get xs 0 → IfSome r R → IfNone r (xs ≡ [])
    → ((x : X) → R x → (rest : List X) × (xs ≡ x ∷ rest)) → P first → (x : X) × R x × P x
removes-first R P xs first None is some none left p = let no : Some first ≡ None = is ∙ ap (λ l. slice_get l 0) none in absurd (cc)
removes-first R P xs first (Some x) is some none left p =
    let l = left x some in (x, some, subst P (same_Some first x (is ∙ ap (λ ys. slice_get ys 0) l.1)) p)

-- so it is the next one gone
pub next-gone : {X : Type 0} (whole gone left rest : List X) (x : X) → whole ≡ gone ++ left → left ≡ x ∷ rest → whole ≡ (gone ++ x ∷ []) ++ rest
next-gone whole gone left rest x is goes = is ∙ ap (λ l. gone ++ l) goes ∙ sym (append_assoc gone (x ∷ []) rest)
