-- A range of a rising list, from both ends: the pairs from the first one on, and the last pair that was found.
use Rattle.btree_walk.proofs.Common.{[], ◌≡◌, ◌∙◌, ℕ, ◌<◌, ◌≤◌, Bool, true, false, not, List, ◌∷◌, ◌++◌, length, Option, Some, None, refl, sym, ap, subst, arith, append_assoc, append-nil, entries_between, range_contains, IsTotalOrder, AllByRecursion, filter, option_or, Ordering, Equal, Greater, Less, Bound, Unbounded, Rises, rises, rises-right, AllByRecursion-append, AllByRecursion-right, IsLast, IsFirstOf, IsLastOf, from_first, left_until}
use Rattle.std.proofs.Common.{cond, ◌&&◌}
use Rattle.std.specs.BTreeMap.Range.{is_from_start, is_past_end}
use Rattle.std.specs.Cmp.{tied_itself}
use Rattle.std.specs.Ordering.{is_gt, is_le, is_lt}
use Rattle.std.specs.declared.ops.Bound.TheVariants.{Excluded}
use Rattle.btree_item.specs.Pairs.{Ascends}
use Rattle.btree_laws.proofs.LookUp.KeyInList.{reversed, reversed-back}
use Rattle.btree_walk.specs.Ranges.{AreLeftSame, IsAhead, IsBehind, bound_at}
use Rattle.btree_walk.proofs.BoundLemmas.{all-so, end-cut, filter-earlier, filter-none, from-start, start-cut, until-end}
use Rattle.btree_walk.proofs.NearLemmas.{past-after, within}

-- what the order of two keys says of the places of their pairs
pub record Compared (order : Ordering) (i j : ℕ) : Type 0 where
  pub less : order ≡ Less → i < j
  pub equal : order ≡ Equal → i ≡ j
  pub greater : order ≡ Greater → j < i

module _ {A : Type 0} where
  -- of two ends of a list, one holds the other
  pub split-end : (before xs front ys : List A) → before ++ xs ≡ front ++ ys → length before ≤ length front → (middle : List A) × (xs ≡ middle ++ ys)
  split-end [] xs front ys e low = (front, e)
  split-end (x ∷ before) xs [] ys e low = absurd (omega arith)
  split-end (x ∷ before) xs (y ∷ front) ys e low =
      let tail : before ++ xs ≡ front ++ ys = cc in
      split-end before xs front ys tail (omega arith)

  pub filter-same : (p q : A → Bool) (xs : List A) → AllByRecursion (λ x. p x ≡ q x) xs → filter p xs ≡ filter q xs
  filter-same p q [] all = refl
  filter-same p q (x ∷ xs) all =
      ap (λ b. cond b (x ∷ filter p xs) (filter p xs)) all.0
      ∙ ap (λ l. cond (q x) (x ∷ l) l) (filter-same p q xs all.1)

  -- a filter by two tests is one by each
  pub filter-twice : (p q : A → Bool) (xs : List A) → filter (λ x. p x && not (q x)) xs ≡ filter (λ x. not (q x)) (filter (λ x. p x && true) xs)
  filter-twice p q [] = refl
  filter-twice p q (x ∷ xs) = by (p x) refl (filter-twice p q xs)
    where
      by : (b : Bool) → p x ≡ b → filter (λ y. p y && not (q y)) xs ≡ filter (λ y. not (q y)) (filter (λ y. p y && true) xs)
          → filter (λ y. p y && not (q y)) (x ∷ xs) ≡ filter (λ y. not (q y)) (filter (λ y. p y && true) (x ∷ xs))
      by true e rest =
          ap (λ b. cond (b && not (q x)) (x ∷ filter (λ y. p y && not (q y)) xs) (filter (λ y. p y && not (q y)) xs)) e
          ∙ ap (λ l. cond (not (q x)) (x ∷ l) l) rest
          ∙ sym (ap (λ b. filter (λ y. not (q y)) (cond (b && true) (x ∷ filter (λ y. p y && true) xs) (filter (λ y. p y && true) xs))) e)
      by false e rest =
          ap (λ b. cond (b && not (q x)) (x ∷ filter (λ y. p y && not (q y)) xs) (filter (λ y. p y && not (q y)) xs)) e
          ∙ rest
          ∙ sym (ap (λ b. filter (λ y. not (q y)) (cond (b && true) (x ∷ filter (λ y. p y && true) xs) (filter (λ y. p y && true) xs))) e)

  pub first-list : (xs : List A) (first : Option A) (rest : List A) → IsFirstOf xs first rest → xs ≡ from_first first rest
  first-list xs None rest e = e.0
  first-list xs (Some x) rest e = e

  pub behind-parts : (all : List A) (y : A) (behind : Option (List A)) → IsBehind all (Some y) behind → (before : List A) × (after : List A) × (all ≡ before ++ y ∷ after)
  behind-parts all y None is = is
  behind-parts all y (Some behind) is = (behind, is.0, is.1)

module _ {K : Type 0} {cmp : K → K → Ordering} (laws : IsTotalOrder cmp) where
  same-back : (x y : K) → cmp x y ≡ Equal → cmp y x ≡ Equal
  same-back x y e = let r = laws.antisymm y x in rw e at r

  -- a bound at a key, and keys below it, above it and at it
  pub bound-below : (k q : K) (is_left : Bool) → cmp q k ≡ Less → is_past_end cmp (bound_at k is_left) q ≡ false
  bound-below k q true e = rw (reversed laws q k e) refl
  bound-below k q false e = rw (reversed laws q k e) refl

  pub bound-above : (k q : K) (is_left : Bool) → cmp k q ≡ Less → is_past_end cmp (bound_at k is_left) q ≡ true
  bound-above k q true e = rw e refl
  bound-above k q false e = rw e refl

module _ {K V : Type 0} {cmp : K → K → Ordering} (laws : IsTotalOrder cmp) where
  head-of : (P : K × V → Type 0) (xs : List (K × V)) (y : K × V) (ys : List (K × V)) → AllByRecursion P (xs ++ y ∷ ys) → P y
  head-of P xs y ys all = (AllByRecursion-right P xs (y ∷ ys) all).0

  pub compared : (before : List (K × V)) (x : K × V) (ahead behind : List (K × V)) (y : K × V) (after : List (K × V))
      → Rises cmp (before ++ x ∷ ahead) → before ++ x ∷ ahead ≡ behind ++ y ∷ after → Compared (cmp x.0 y.0) (length before) (length behind)
  compared [] x ahead [] y after up e =
      let same : x ≡ y = cc in
      let tied : cmp x.0 y.0 ≡ Equal = rw (← same) (tied_itself laws x.0) in
      record { less = λ h. absurd (cc); equal = λ h. refl; greater = λ h. absurd (cc) }
  compared [] x ahead (p ∷ behind) y after up e =
      let tail : ahead ≡ behind ++ y ∷ after = cc in
      let low : cmp x.0 y.0 ≡ Less = head-of (λ z. cmp x.0 z.0 ≡ Less) behind y after (rw (← tail) up.0) in
      record { less = λ h. omega arith; equal = λ h. absurd (cc); greater = λ h. absurd (cc) }
  compared (b ∷ before) x ahead [] y after up e =
      let same : b ≡ y = cc in
      let low : cmp b.0 x.0 ≡ Less = head-of (λ z. cmp b.0 z.0 ≡ Less) before x ahead up.0 in
      let high : cmp x.0 y.0 ≡ Greater = rw (← same) (reversed laws b.0 x.0 low) in
      record { less = λ h. absurd (cc); equal = λ h. absurd (cc); greater = λ h. omega arith }
  compared (b ∷ before) x ahead (p ∷ behind) y after up e =
      let tail : before ++ x ∷ ahead ≡ behind ++ y ∷ after = cc in
      let c = compared before x ahead behind y after up.1 tail in
      record {
        less = λ h. let l = c.less h in omega arith;
        equal = λ h. let l = c.equal h in omega arith;
        greater = λ h. let l = c.greater h in omega arith;
      }

  -- of a list that rises, a pair and those on its two sides
  lower : (front : List (K × V)) (y : K × V) (after : List (K × V)) → Rises cmp (front ++ y ∷ after) → AllByRecursion (λ e. cmp e.0 y.0 ≡ Less) front
  lower [] y after up = tt
  lower (z ∷ front) y after up = (head-of (λ w. cmp z.0 w.0 ≡ Less) front y after up.0, lower front y after up.1)

  higher : (front : List (K × V)) (y : K × V) (after : List (K × V)) → Rises cmp (front ++ y ∷ after) → AllByRecursion (λ e. cmp y.0 e.0 ≡ Less) after
  higher front y after up = (rises-right cmp front (y ∷ after) up).0

  abbrev test : K → Bool → K × V → Bool
  test k is_left x = range_contains cmp Unbounded (bound_at k is_left) x.0

  module _ (front : List (K × V)) (y : K × V) (after : List (K × V)) (up : Rises cmp (front ++ y ∷ after)) where
    front-in : (is_left : Bool) → AllByRecursion (λ e. test y.0 is_left e ≡ true) front
    front-in is_left = all-so (λ e. cmp e.0 y.0 ≡ Less) (λ e. test y.0 is_left e ≡ true) (λ e l. ap not (bound-below laws y.0 e.0 is_left l)) front (lower front y after up)

    after-out : (is_left : Bool) → AllByRecursion (λ e. test y.0 is_left e ≡ false) after
    after-out is_left = all-so (λ e. cmp y.0 e.0 ≡ Less) (λ e. test y.0 is_left e ≡ false) (λ e l. ap not (bound-above laws y.0 e.0 is_left l)) after (higher front y after up)

    tied : cmp y.0 y.0 ≡ Equal
    tied = tied_itself laws y.0

    pub until-left : left_until cmp (front ++ y ∷ after) (Some y) true ≡ front ++ y ∷ []
    until-left =
        ap (filter (test y.0 true)) (sym (append_assoc front (y ∷ []) after))
        ∙ filter-earlier (test y.0 true) (front ++ y ∷ []) after
        (AllByRecursion-append (λ e. test y.0 true e ≡ true) front (y ∷ []) (front-in true) (ap (λ o. not (is_lt o)) tied, tt)) (after-out true)

    pub until-given : left_until cmp (front ++ y ∷ after) (Some y) false ≡ front
    until-given =
        filter-earlier (test y.0 false) front (y ∷ after) (front-in false) (ap (λ o. not (is_le o)) tied, after-out false)

  -- a pair that was given leaves what the one before it leaves
  module _ (all : List (K × V)) (up : Rises cmp all) (y : K × V) (after : List (K × V)) where
    pub given-none : all ≡ y ∷ after → AreLeftSame cmp all (Some y) false None true
    given-none is before pairs e =
        let out : AllByRecursion (λ x. test y.0 false x ≡ false) (y ∷ after) = (ap (λ o. not (is_le o)) (tied_itself laws y.0), after-out [] y after (subst (λ l. Rises cmp l) is up) false) in
        filter-none (test y.0 false) pairs
        (AllByRecursion-right (λ x. test y.0 false x ≡ false) before pairs (subst (λ l. AllByRecursion (λ x. test y.0 false x ≡ false) l) (sym is ∙ e) out))

    pub given-some : (front : List (K × V)) (z : K × V) → all ≡ front ++ z ∷ (y ∷ after) → AreLeftSame cmp all (Some y) false (Some z) true
    given-some front z is before pairs e =
        let rise : Rises cmp (front ++ z ∷ (y ∷ after)) = subst (λ l. Rises cmp l) is up in
        let less : cmp z.0 y.0 ≡ Less = (higher front z (y ∷ after) rise).0 in
        let rise-back : Rises cmp ((front ++ z ∷ []) ++ y ∷ after) = subst (λ l. Rises cmp l) (sym (append_assoc front (z ∷ []) (y ∷ after))) rise in
        let ins = front-in (front ++ z ∷ []) y after rise-back false in
        let Same = λ (x : K × V). test y.0 false x ≡ test z.0 true x in
        let fronts = all-so (λ x. cmp x.0 z.0 ≡ Less) Same
        (λ x l. ap not (bound-below laws y.0 x.0 false (laws.trans x.0 z.0 y.0 l less)) ∙ sym (ap not (bound-below laws z.0 x.0 true l))) front (lower front z (y ∷ after) rise) in
        let here : Same z = ap not (bound-below laws y.0 z.0 false less) ∙ sym (ap (λ o. not (is_lt o)) (tied_itself laws z.0)) in
        let there : Same y = ap (λ o. not (is_le o)) (tied_itself laws y.0) ∙ sym (ap not (bound-above laws z.0 y.0 true less)) in
        let afters = all-so (λ x. cmp y.0 x.0 ≡ Less) Same
        (λ x l. ap not (bound-above laws y.0 x.0 false l) ∙ sym (ap not (bound-above laws z.0 x.0 true (laws.trans z.0 y.0 x.0 less l)))) after (higher (front ++ z ∷ []) y after rise-back) in
        let whole = AllByRecursion-append Same front (z ∷ y ∷ after) fronts (here, (there, afters)) in
        filter-same (test y.0 false) (test z.0 true) pairs (AllByRecursion-right Same before pairs (subst (λ l. AllByRecursion Same l) (sym is ∙ e) whole))

    -- the last step of a backward walk
    pub walk-behind : (behind : List (K × V)) → all ≡ behind ++ y ∷ after → (last : Option (K × V)) (rest : List (K × V)) → IsLastOf behind last rest
        → AreLeftSame cmp all (Some y) false last true × IsBehind all last (Some rest)
    walk-behind behind is None rest none = (given-none (is ∙ ap (λ l. l ++ y ∷ after) none.0), tt)
    walk-behind behind is (Some z) rest more =
        let parts : all ≡ rest ++ z ∷ (y ∷ after) = is ∙ ap (λ l. l ++ y ∷ after) more ∙ append_assoc rest (z ∷ []) (y ∷ after) in
        (given-some rest z parts, (y ∷ after, parts))

-- the walk is made, and takes its first step
module _ {K V : Type 0} {cmp : K → K → Ordering} (laws : IsTotalOrder cmp) (all : List (K × V)) (up : Rises cmp all) (y : K × V) where
  pub found-behind : IsBehind all (Some y) None → (last : Option (K × V)) (rest : List (K × V)) → IsLastOf (entries_between cmp Unbounded (Excluded y.0) all) last rest
      → AreLeftSame cmp all (Some y) false last true × IsBehind all last (Some rest)
  found-behind b last rest more =
      let list = ap (λ l. left_until cmp l (Some y) false) b.2 ∙ until-given laws b.0 y b.1 (subst (λ l. Rises cmp l) b.2 up) in
      walk-behind laws all up y b.1 b.0 b.2 last rest (subst (λ l. IsLastOf l last rest) list more)

-- of no pairs none are left
pub none-left : {K V : Type 0} (cmp : K → K → Ordering) (last : Option (K × V)) (is_left : Bool) → left_until cmp [] last is_left ≡ []
none-left cmp None is_left = refl
none-left cmp (Some y) is_left = refl

-- a step of a range
module _ {K V : Type 0} {cmp : K → K → Ordering} (laws : IsTotalOrder cmp) (all : List (K × V)) (up : Rises cmp all)
    (x : K × V) (ahead : List (K × V)) (front : IsAhead all (Some x) ahead) (y : K × V) where
  rising : Rises cmp (x ∷ ahead)
  rising = rises-right cmp front.before (x ∷ ahead) (subst (λ l. Rises cmp l) front.is up)

  -- an element at the front is within the bound, or past it
  first-in : (is_left : Bool) → is_past_end cmp (bound_at y.0 is_left) x.0 ≡ false → left_until cmp (x ∷ ahead) (Some y) is_left ≡ x ∷ left_until cmp ahead (Some y) is_left
  first-in is_left e = ap (λ b. cond (not b) (x ∷ left_until cmp ahead (Some y) is_left) (left_until cmp ahead (Some y) is_left)) e

  none-in : (is_left : Bool) → is_past_end cmp (bound_at y.0 is_left) x.0 ≡ true → left_until cmp (x ∷ ahead) (Some y) is_left ≡ []
  none-in is_left e =
      filter-none (λ z. range_contains cmp Unbounded (bound_at y.0 is_left) z.0) (x ∷ ahead)
      (all-so (λ z. is_past_end cmp (bound_at y.0 is_left) z.0 ≡ true) (λ z. range_contains cmp Unbounded (bound_at y.0 is_left) z.0 ≡ false) (λ z p. ap not p) (x ∷ ahead)
      (past-after laws (bound_at y.0 is_left) x ahead rising e))

  pub steps-on : (is_left : Bool) → cmp x.0 y.0 ≡ Less → (next : Option (K × V)) (rest : List (K × V)) → IsFirstOf ahead next rest
      → (left_until cmp (x ∷ ahead) (Some y) is_left ≡ x ∷ left_until cmp (from_first next rest) (Some y) is_left) × IsAhead all next rest
  steps-on is_left e next rest more =
      let list = first-list ahead next rest more in (
        first-in is_left (bound-below laws y.0 x.0 is_left e) ∙ ap (λ l. x ∷ left_until cmp l (Some y) is_left) list,
        record { before = front.before ++ x ∷ []; is = front.is ∙ ap (λ l. front.before ++ x ∷ l) list ∙ sym (append_assoc front.before (x ∷ []) (from_first next rest)) },
      )

  pub meets : cmp x.0 y.0 ≡ Equal → left_until cmp (x ∷ ahead) (Some y) true ≡ x ∷ []
  meets e =
      let same = same-back laws x.0 y.0 e in
      first-in true (ap is_lt same)
      ∙ ap (λ l. x ∷ l) (filter-none (λ z. range_contains cmp Unbounded (bound_at y.0 true) z.0) ahead
      (all-so (λ z. cmp x.0 z.0 ≡ Less) (λ z. range_contains cmp Unbounded (bound_at y.0 true) z.0 ≡ false)
      (λ z l. ap not (bound-above laws y.0 z.0 true (laws.congr y.0 x.0 z.0 same ∙ l))) ahead rising.0))

  pub meets-given : cmp x.0 y.0 ≡ Equal → left_until cmp (x ∷ ahead) (Some y) false ≡ []
  meets-given e = none-in false (ap is_le (same-back laws x.0 y.0 e))

  pub passes : (is_left : Bool) → cmp x.0 y.0 ≡ Greater → left_until cmp (x ∷ ahead) (Some y) is_left ≡ []
  passes is_left e = none-in is_left (bound-above laws y.0 x.0 is_left (reversed-back laws x.0 y.0 e))

  pub passes-gt : is_gt (cmp x.0 y.0) ≡ true → left_until cmp (x ∷ ahead) (Some y) true ≡ []
  passes-gt e = by (cmp x.0 y.0) refl
    where
      by : (o : Ordering) → cmp x.0 y.0 ≡ o → left_until cmp (x ∷ ahead) (Some y) true ≡ []
      by Less is = let no : false ≡ true = ap is_gt (sym is) ∙ e in absurd (cc)
      by Equal is = let no : false ≡ true = ap is_gt (sym is) ∙ e in absurd (cc)
      by Greater is = passes true is

  -- the last pair is given
  pub gives-last : (behind : Option (List (K × V))) → IsBehind all (Some y) behind → is_gt (cmp x.0 y.0) ≡ false
      → left_until cmp (x ∷ ahead) (Some y) true ≡ left_until cmp (x ∷ ahead) (Some y) false ++ y ∷ []
  gives-last behind back e =
      let b = behind-parts all y behind back in
      let c = compared laws front.before x ahead b.0 y b.1 (subst (λ l. Rises cmp l) front.is up) (sym front.is ∙ b.2) in
      let s = split-end front.before (x ∷ ahead) b.0 (y ∷ b.1) (sym front.is ∙ b.2) (low c (cmp x.0 y.0) refl) in
      let rise : Rises cmp (s.0 ++ y ∷ b.1) = subst (λ l. Rises cmp l) s.1 rising in
      ap (λ l. left_until cmp l (Some y) true) s.1 ∙ until-left laws s.0 y b.1 rise
      ∙ ap (λ l. l ++ y ∷ []) (sym (ap (λ l. left_until cmp l (Some y) false) s.1 ∙ until-given laws s.0 y b.1 rise))
    where
      low : {i j : ℕ} → Compared (cmp x.0 y.0) i j → (o : Ordering) → cmp x.0 y.0 ≡ o → i ≤ j
      low c Less is = let l = c.less is in omega arith
      low c Equal is = let l = c.equal is in omega arith
      low c Greater is = let no : true ≡ false = ap is_gt (sym is) ∙ e in absurd (cc)

-- no first pair, and so none ahead
pub none-ahead : {A : Type 0} {all ahead : List A} → IsAhead all None ahead
none-ahead {A} {all} {ahead} = record { before = all; is = sym (append-nil all) }

-- a step, where the first pair and the last one are known by equations
module _ {K V : Type 0} {cmp : K → K → Ordering} (laws : IsTotalOrder cmp) {all : List (K × V)} (ascend : Ascends cmp all) {first last : Option (K × V)}
    {ahead : List (K × V)} (front : IsAhead all first ahead) {x y : K × V} (is : first ≡ Some x) (ends : last ≡ Some y) (is_left : Bool) where
  up : Rises cmp all
  up = rises cmp all ascend

  abbrev pub left_now : List (K × V)
  left_now = left_until cmp (from_first first ahead) last is_left

  at-x : IsAhead all (Some x) ahead
  at-x = subst (λ o. IsAhead all o ahead) is front

  known : left_now ≡ left_until cmp (x ∷ ahead) (Some y) is_left
  known = ap (λ o. left_until cmp (from_first o ahead) last is_left) is ∙ ap (λ o. left_until cmp (x ∷ ahead) o is_left) ends

  pub steps-front : cmp x.0 y.0 ≡ Less → (next : Option (K × V)) (rest : List (K × V)) → IsFirstOf ahead next rest
      → (left_now ≡ x ∷ left_until cmp (from_first next rest) last is_left) × IsAhead all next rest
  steps-front e next rest more =
      let s = steps-on laws all up x ahead at-x y is_left e next rest more in
      (known ∙ s.0 ∙ ap (λ o. x ∷ left_until cmp (from_first next rest) o is_left) (sym ends), s.1)

  pub meets-front : cmp x.0 y.0 ≡ Equal → is_left ≡ true → left_now ≡ x ∷ []
  meets-front e left = known ∙ ap (λ b. left_until cmp (x ∷ ahead) (Some y) b) left ∙ meets laws all up x ahead at-x y e

  pub meets-after : cmp x.0 y.0 ≡ Equal → is_left ≡ false → left_now ≡ []
  meets-after e left = known ∙ ap (λ b. left_until cmp (x ∷ ahead) (Some y) b) left ∙ meets-given laws all up x ahead at-x y e

  pub passes-front : cmp x.0 y.0 ≡ Greater → left_now ≡ []
  passes-front e = known ∙ passes laws all up x ahead at-x y is_left e

  -- another last pair leaves the same
  module _ (other : Option (K × V)) (same : AreLeftSame cmp all (Some y) is_left other true) where
    kept : left_now ≡ left_until cmp (from_first first ahead) other true
    kept = ap (λ o. left_until cmp (from_first first ahead) o is_left) ends ∙ same front.before (from_first first ahead) front.is

    pub none-back : other ≡ None → left_now ≡ []
    none-back none = kept ∙ ap (λ o. left_until cmp (from_first first ahead) o true) none

    module _ (z : K × V) (last_is : other ≡ Some z) where
      now : left_now ≡ left_until cmp (x ∷ ahead) (Some z) true
      now = kept ∙ ap (λ o. left_until cmp (from_first first ahead) o true) last_is ∙ ap (λ o. left_until cmp (from_first o ahead) (Some z) true) is

      pub passes-back : is_gt (cmp x.0 z.0) ≡ true → left_now ≡ []
      passes-back e = now ∙ passes-gt laws all up x ahead at-x z e

      pub gives-back : (behind : Option (List (K × V))) → IsBehind all other behind → is_gt (cmp x.0 z.0) ≡ false
          → left_now ≡ left_until cmp (from_first first ahead) (Some z) false ++ z ∷ []
      gives-back behind back e =
          now
          ∙ gives-last laws all up x ahead at-x z behind (subst (λ o. IsBehind all o behind) last_is back) e
          ∙ ap (λ o. left_until cmp (from_first o ahead) (Some z) false ++ z ∷ []) (sym is)

-- what a range begins with
module _ {K V : Type 0} {cmp : K → K → Ordering} (laws : IsTotalOrder cmp) where
  -- the last pair within a bound, with one more pair at the front
  module _ (end : Bound K) (x : K × V) (ahead : List (K × V)) where
    pub last-cons : (r : Option (K × V)) → IsLast (within laws end ahead) r → is_past_end cmp end x.0 ≡ false → IsLast (within laws end (x ∷ ahead)) (option_or r (Some x))
    last-cons None is e = ([], (ap (λ b. cond (not b) (x ∷ within laws end ahead) (within laws end ahead)) e) ∙ ap (λ l. x ∷ l) is)
    last-cons (Some y) is e = (x ∷ is.0, (ap (λ b. cond (not b) (x ∷ within laws end ahead) (within laws end ahead)) e) ∙ ap (λ l. x ∷ l) is.1)

    pub last-past : Rises cmp (x ∷ ahead) → is_past_end cmp end x.0 ≡ true → within laws end (x ∷ ahead) ≡ []
    last-past rise e =
        filter-none (λ z. range_contains cmp Unbounded end z.0) (x ∷ ahead)
        (all-so (λ z. is_past_end cmp end z.0 ≡ true) (λ z. range_contains cmp Unbounded end z.0 ≡ false) (λ z p. ap not p) (x ∷ ahead) (past-after laws end x ahead rise e))

  module _ (all : List (K × V)) (up : Rises cmp all) (lo hi : Bound K) (first : Option (K × V)) (ahead : List (K × V)) (is : IsFirstOf (entries_between cmp lo Unbounded all) first ahead) where
    abbrev pairs : List (K × V)
    pairs = from_first first ahead

    cut : all ≡ (start-cut laws lo all up).outside ++ pairs
    cut =
        let c = start-cut laws lo all up in
        c.is ∙ ap (λ l. c.outside ++ l) (sym (from-start laws all up lo) ∙ first-list (entries_between cmp lo Unbounded all) first ahead is)

    pub begins-ahead : IsAhead all first ahead
    begins-ahead = record { before = (start-cut laws lo all up).outside; is = cut }

    pub begins-rises : Rises cmp pairs
    begins-rises = rises-right cmp (start-cut laws lo all up).outside pairs (subst (λ l. Rises cmp l) cut up)

    list : entries_between cmp lo hi all ≡ within laws hi pairs
    list =
        filter-twice (λ e. is_from_start cmp lo e.0) (λ e. is_past_end cmp hi e.0) all
        ∙ ap (within laws hi) (first-list (entries_between cmp lo Unbounded all) first ahead is)

    -- the pairs up to the last one within the bound, and the others
    parts : (y : K × V) (b : List (K × V)) → within laws hi pairs ≡ b ++ y ∷ [] → pairs ≡ b ++ y ∷ (end-cut laws hi pairs begins-rises).outside
    parts y b e =
        let c = end-cut laws hi pairs begins-rises in
        c.is ∙ ap (λ l. l ++ c.outside) (sym (until-end laws pairs begins-rises hi) ∙ e) ∙ append_assoc b (y ∷ []) c.outside

    pub begins-behind : (last : Option (K × V)) → IsLast (within laws hi pairs) last → IsBehind all last None
    begins-behind None e = tt
    begins-behind (Some y) e =
        let outside = (start-cut laws lo all up).outside in (
          outside ++ e.0,
          (end-cut laws hi pairs begins-rises).outside,
          cut ∙ ap (λ l. outside ++ l) (parts y e.0 e.1) ∙ sym (append_assoc outside e.0 (y ∷ (end-cut laws hi pairs begins-rises).outside)),
        )

    pub begins : (last : Option (K × V)) → IsLast (within laws hi pairs) last → left_until cmp pairs last true ≡ entries_between cmp lo hi all
    begins None e = sym (list ∙ e)
    begins (Some y) e =
        let p = parts y e.0 e.1 in
        ap (λ l. left_until cmp l (Some y) true) p
        ∙ until-left laws e.0 y (end-cut laws hi pairs begins-rises).outside (subst (λ l. Rises cmp l) p begins-rises)
        ∙ sym (list ∙ e.1)
