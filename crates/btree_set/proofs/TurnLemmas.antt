-- One turn of each merge, as the iterators take it.
use Rattle.btree_set.proofs.Common.{◌≡◌, ◌∙◌, true, false, List, [], ◌∷◌, Option, None, Some, drop, length, slice_get, refl, sym, ap, subst, arith, IsTotalOrder, IsStrictlySortedBy, Ordering, Less, Equal, Greater, difference, intersection, symmetric_difference, union}
use Rattle.std.proofs.Common.{option_copied}
use Rattle.std.specs.Borrow.{Bor}
use Rattle.std.specs.Iterator.{MakesProgress, YieldsFirstRef, item_count}
use Rattle.btree_set.proofs.MergeLemmas.{difference-equal, difference-greater, difference-less, difference-none, intersection-equal, intersection-greater, intersection-less, intersection-none, merge-equal, merge-greater, merge-less, merge-none}

module _ {T : Type 0} where
  -- a call gave the first element, or there was none
  abbrev pub Steps : List T → Option (Bor T) → List T → Type 0
  Steps xs r ys = YieldsFirstRef (λ rest. rest) xs r ys

  -- each item lowers the number of those left
  pub goes : {S : Type 0} (rest : S → List T) (s t : S) (r : Option (Bor T)) → Steps (rest s) r (rest t) → MakesProgress (λ _. Unit {0}) (item_count rest) s r t
  goes rest s t None steps = record { on = λ finite. tt; keeps = tt; rests = λ finite. tt }
  goes rest s t (Some x) steps = let fewer = ap length steps in record { on = λ finite. (tt, tt, omega arith); keeps = tt; rests = λ finite. tt }

  pub along : (us vs xs ys : List T) (r : Option (Bor T)) → us ≡ xs → vs ≡ ys → Steps xs r ys → Steps us r vs
  along us vs xs ys r e f steps = rw (e, f) steps

  pub taken : (xs ys : List T) (r : Option (Bor T)) → option_copied r ≡ slice_get xs 0 → ys ≡ drop 1 xs → Steps xs r ys
  taken [] ys None is e = (refl, e)
  taken [] ys (Some y) is e = absurd (cc)
  taken (x ∷ xs) ys None is e = absurd (cc)
  taken (x ∷ xs) ys (Some y) is e = let same : y.now ≡ x = cc in rw (same, e) refl

  pub headed : (xs : List T) (r : Option (Bor T)) (x : Bor T) → option_copied r ≡ slice_get xs 0 → r ≡ Some x → xs ≡ x.now ∷ drop 1 xs
  headed [] r x is some = absurd (let e = ap option_copied some in cc)
  headed (y ∷ xs) r x is some = let e = ap option_copied some in let same : y ≡ x.now = cc in ap (λ z. z ∷ xs) same

  pub empty : (xs : List T) (r : Option (Bor T)) → option_copied r ≡ slice_get xs 0 → r ≡ None → xs ≡ []
  empty [] r is none = refl
  empty (y ∷ xs) r is none = absurd (let e = ap option_copied none in cc)

  module _ (cmp : T → T → Ordering) where
    pub union-no-first : (first second : List T) → first ≡ [] → union cmp first second ≡ second
    union-no-first first second e = rw e (merge-none cmp true second)

    pub union-no-second : (first second : List T) → second ≡ [] → union cmp first second ≡ first
    union-no-second first second e = rw e refl

    pub apart-no-first : (first second : List T) → first ≡ [] → symmetric_difference cmp first second ≡ second
    apart-no-first first second e = rw e (merge-none cmp false second)

    pub apart-no-second : (first second : List T) → second ≡ [] → symmetric_difference cmp first second ≡ first
    apart-no-second first second e = rw e refl

    module _ (first second us vs : List T) (x y : T) (e : first ≡ x ∷ us) (f : second ≡ y ∷ vs) where
      pub union-less : cmp y x ≡ Less → union cmp first second ≡ y ∷ union cmp first vs
      union-less less = rw (e, f) (merge-less cmp true y x vs us less)

      pub union-greater : cmp y x ≡ Greater → union cmp first second ≡ x ∷ union cmp us second
      union-greater greater = rw (e, f) (merge-greater cmp true y x vs us greater)

      pub apart-less : cmp y x ≡ Less → symmetric_difference cmp first second ≡ y ∷ symmetric_difference cmp first vs
      apart-less less = rw (e, f) (merge-less cmp false y x vs us less)

      pub apart-equal : cmp y x ≡ Equal → symmetric_difference cmp first second ≡ symmetric_difference cmp us vs
      apart-equal equal = rw (e, f) (merge-equal cmp false y x vs us equal)

      pub apart-greater : cmp y x ≡ Greater → symmetric_difference cmp first second ≡ x ∷ symmetric_difference cmp us second
      apart-greater greater = rw (e, f) (merge-greater cmp false y x vs us greater)

  module _ {cmp : T → T → Ordering} (laws : IsTotalOrder cmp) where
    pub shared-no-second : (first second : List T) → second ≡ [] → intersection cmp first second ≡ []
    shared-no-second first second e = rw e (intersection-none laws first)

    pub shared-no-first : (first second : List T) → first ≡ [] → intersection cmp first second ≡ []
    shared-no-first first second e = rw e refl

    pub lacking-no-second : (first second : List T) → second ≡ [] → difference cmp first second ≡ first
    lacking-no-second first second e = rw e (difference-none laws first)

    pub lacking-no-first : (first second : List T) → first ≡ [] → difference cmp first second ≡ []
    lacking-no-first first second e = rw e refl

    module _ (first second us vs : List T) (x y : T) (e : first ≡ x ∷ us) (f : second ≡ y ∷ vs) (up : IsStrictlySortedBy cmp first) (rise : IsStrictlySortedBy cmp second) where
      sorted-first : IsStrictlySortedBy cmp (x ∷ us)
      sorted-first = subst (λ l. IsStrictlySortedBy cmp l) e up

      sorted-second : IsStrictlySortedBy cmp (y ∷ vs)
      sorted-second = subst (λ l. IsStrictlySortedBy cmp l) f rise

      shared-here : intersection cmp first second ≡ intersection cmp (x ∷ us) (y ∷ vs)
      shared-here = ap (λ l. intersection cmp l second) e ∙ ap (λ l. intersection cmp (x ∷ us) l) f

      lacking-here : difference cmp first second ≡ difference cmp (x ∷ us) (y ∷ vs)
      lacking-here = ap (λ l. difference cmp l second) e ∙ ap (λ l. difference cmp (x ∷ us) l) f

      pub shared-less : cmp x y ≡ Less → intersection cmp first second ≡ intersection cmp us second
      shared-less less =
          shared-here ∙ intersection-less laws x y us vs sorted-first sorted-second less ∙ sym (ap (λ l. intersection cmp us l) f)

      pub shared-equal : cmp x y ≡ Equal → intersection cmp first second ≡ x ∷ intersection cmp us vs
      shared-equal equal = shared-here ∙ intersection-equal laws x y us vs sorted-first sorted-second equal

      pub shared-greater : cmp x y ≡ Greater → intersection cmp first second ≡ intersection cmp first vs
      shared-greater greater =
          shared-here ∙ intersection-greater laws x y us vs sorted-first sorted-second greater ∙ sym (ap (λ l. intersection cmp l vs) e)

      pub lacking-less : cmp x y ≡ Less → difference cmp first second ≡ x ∷ difference cmp us second
      lacking-less less =
          lacking-here ∙ difference-less laws x y us vs sorted-first sorted-second less ∙ sym (ap (λ l. x ∷ difference cmp us l) f)

      pub lacking-equal : cmp x y ≡ Equal → difference cmp first second ≡ difference cmp us vs
      lacking-equal equal = lacking-here ∙ difference-equal laws x y us vs sorted-first sorted-second equal

      pub lacking-greater : cmp x y ≡ Greater → difference cmp first second ≡ difference cmp first vs
      lacking-greater greater =
          lacking-here ∙ difference-greater laws x y us vs sorted-first sorted-second greater ∙ sym (ap (λ l. difference cmp l vs) e)
