-- The pairs of a rising list between two bounds.
use Rattle.btree_walk.proofs.Common.{[], ◌≡◌, ◌∙◌, suc, ◌+◌, ◌-◌, Bool, true, false, not, List, ◌∷◌, ◌++◌, length, take, refl, sym, ap, subst, arith, length-append, take_at, entries_between, range_contains, IsTotalOrder, AllByRecursion, filter, Ordering, Equal, Greater, Less, Bound, Included, Unbounded, Rises, rises-left, rises-right, AllByRecursion-right}
use Rattle.std.proofs.Common.{cond, ◌&&◌}
use Rattle.std.proofs.lemmas.List.{append-nil}
use Rattle.std.proofs.lemmas.List.Elements.{filter-append}
use Rattle.std.specs.BTreeMap.Range.{is_from_start, is_past_end}
use Rattle.std.specs.Ordering.{is_eq, is_le, is_lt}
use Rattle.std.specs.declared.ops.Bound.TheVariants.{Excluded}
use Rattle.btree_laws.proofs.LookUp.KeyInList.{reversed, reversed-back}
use Rattle.btree_find.specs.CallerLaws.{equal-by}

module _ {A : Type 0} where
  -- what holds of each element holds as any weaker fact too
  pub all-so : (P Q : A → Type 0) → ((x : A) → P x → Q x) → (xs : List A) → AllByRecursion P xs → AllByRecursion Q xs
  all-so P Q so [] all = tt
  all-so P Q so (x ∷ xs) all = (so x all.0, all-so P Q so xs all.1)

  -- of a list in which no element passes a test nothing is left
  pub filter-none : (test : A → Bool) (xs : List A) → AllByRecursion (λ x. test x ≡ false) xs → filter test xs ≡ []
  filter-none test [] all = refl
  filter-none test (x ∷ xs) all = ap (λ b. cond b (x ∷ filter test xs) (filter test xs)) all.0 ∙ filter-none test xs all.1

  -- a list in which each element passes is left whole
  pub filter-all : (test : A → Bool) (xs : List A) → AllByRecursion (λ x. test x ≡ true) xs → filter test xs ≡ xs
  filter-all test [] all = refl
  filter-all test (x ∷ xs) all = ap (λ b. cond b (x ∷ filter test xs) (filter test xs)) all.0 ∙ ap (λ l. x ∷ l) (filter-all test xs all.1)

  -- those that fail come first
  pub filter-later : (test : A → Bool) (xs ys : List A) → AllByRecursion (λ x. test x ≡ false) xs → AllByRecursion (λ x. test x ≡ true) ys → filter test (xs ++ ys) ≡ ys
  filter-later test xs ys fail pass = filter-append test xs ys ∙ ap (λ l. l ++ filter test ys) (filter-none test xs fail) ∙ filter-all test ys pass

  -- a list whose passing elements come first is filtered to these
  pub filter-earlier : (test : A → Bool) (xs ys : List A) → AllByRecursion (λ x. test x ≡ true) xs → AllByRecursion (λ x. test x ≡ false) ys → filter test (xs ++ ys) ≡ xs
  filter-earlier test xs ys pass fail =
      filter-append test xs ys ∙ ap (λ l. l ++ filter test ys) (filter-all test xs pass) ∙ ap (λ l. xs ++ l) (filter-none test ys fail) ∙ append-nil xs

  -- a list whose first part is outside one bound and whose last part is past another
  module _ (p q : A → Bool) where
    abbrev both : A → Bool
    both x = p x && not (q x)

    none-both : (xs : List A) → AllByRecursion (λ x. p x ≡ true) xs → AllByRecursion (λ x. q x ≡ true) xs → filter both xs ≡ []
    none-both [] pass past = refl
    none-both (x ∷ xs) pass past =
        ap (λ b. cond (b && not (q x)) (x ∷ filter both xs) (filter both xs)) pass.0
        ∙ ap (λ b. cond (not b) (x ∷ filter both xs) (filter both xs)) past.0
        ∙ none-both xs pass.1 past.1

    front-both : (inn out : List A) → AllByRecursion (λ x. p x ≡ true) (inn ++ out) → AllByRecursion (λ x. q x ≡ false) inn → AllByRecursion (λ x. q x ≡ true) out
        → filter both (inn ++ out) ≡ inn
    front-both [] out pass until past = none-both out pass past
    front-both (x ∷ inn) out pass until past =
        ap (λ b. cond (b && not (q x)) (x ∷ filter both (inn ++ out)) (filter both (inn ++ out))) pass.0
        ∙ ap (λ b. cond (not b) (x ∷ filter both (inn ++ out)) (filter both (inn ++ out))) until.0
        ∙ ap (λ l. x ∷ l) (front-both inn out pass.1 until.1 past)

    pub both-take : (outside inside inn out : List A) → outside ++ inside ≡ inn ++ out → AllByRecursion (λ x. p x ≡ true) inside
        → AllByRecursion (λ x. q x ≡ false) inn → AllByRecursion (λ x. q x ≡ true) out → filter both inside ≡ take (length inn - length outside) inside
    both-take [] inside inn out e pass until past =
        let n : length inn - 0 ≡ length inn = omega arith in
        rw (n, e) (front-both inn out (rw (← e) pass) until past ∙ sym (take_at inn out (length inn) refl))
    both-take (x ∷ outside) inside [] out e pass until past =
        let n : 0 - suc (length outside) ≡ 0 = omega arith in
        let all : AllByRecursion (λ y. q y ≡ true) ((x ∷ outside) ++ inside) = subst (λ l. AllByRecursion (λ y. q y ≡ true) l) (sym e) past in
        rw n (none-both inside pass (AllByRecursion-right (λ y. q y ≡ true) (x ∷ outside) inside all))
    both-take (x ∷ outside) inside (y ∷ inn) out e pass until past =
        let n : suc (length inn) - suc (length outside) ≡ length inn - length outside = omega arith in
        let tail : outside ++ inside ≡ inn ++ out = cc in
        rw n (both-take outside inside inn out tail pass until.1 past)

module _ {K : Type 0} {cmp : K → K → Ordering} (laws : IsTotalOrder cmp) where
  -- a key after one inside a start bound is inside it
  pub from-on : (lo : Bound K) (x y : K) → cmp x y ≡ Less → is_from_start cmp lo x ≡ true → is_from_start cmp lo y ≡ true
  from-on Unbounded x y less pass = refl
  from-on (Included a) x y less pass = by (cmp a x) refl
    where
      by : (o : Ordering) → cmp a x ≡ o → is_le (cmp a y) ≡ true
      by Less e = ap is_le (laws.trans a x y e less)
      by Equal e = ap is_le (laws.congr a x y e ∙ less)
      by Greater e = let no : false ≡ true = ap is_le (sym e) ∙ pass in absurd (cc)
  from-on (Excluded a) x y less pass = by (cmp a x) refl
    where
      by : (o : Ordering) → cmp a x ≡ o → is_lt (cmp a y) ≡ true
      by Less e = ap is_lt (laws.trans a x y e less)
      by Equal e = let no : false ≡ true = ap is_lt (sym e) ∙ pass in absurd (cc)
      by Greater e = let no : false ≡ true = ap is_lt (sym e) ∙ pass in absurd (cc)

  -- a key above one that is past an end bound is past it too
  pub past-on : (hi : Bound K) (x y : K) → cmp x y ≡ Less → is_past_end cmp hi x ≡ true → is_past_end cmp hi y ≡ true
  past-on Unbounded x y less past = past
  past-on (Included b) x y less past = from-on (Excluded b) x y less past
  past-on (Excluded b) x y less past = from-on (Included b) x y less past

module _ {K V : Type 0} {cmp : K → K → Ordering} (laws : IsTotalOrder cmp) where
  -- the pairs outside a start bound, and those inside it
  pub record StartCut (lo : Bound K) (xs : List (K × V)) : Type 0 where
    pub outside : List (K × V)
    pub inside : List (K × V)
    pub is : xs ≡ outside ++ inside
    pub out : AllByRecursion (λ x. is_from_start cmp lo x.0 ≡ false) outside
    pub pass : AllByRecursion (λ x. is_from_start cmp lo x.0 ≡ true) inside

  -- a bound cuts an ascending list into what is outside and what is inside
  pub start-cut : (lo : Bound K) (xs : List (K × V)) → Rises cmp xs → StartCut lo xs
  start-cut lo [] up = record { outside = []; inside = []; is = refl; out = tt; pass = tt }
  start-cut lo (x ∷ xs) up = by (is_from_start cmp lo x.0) refl (start-cut lo xs up.1)
    where
      by : (b : Bool) → is_from_start cmp lo x.0 ≡ b → StartCut lo xs → StartCut lo (x ∷ xs)
      by true e c = record {
        outside = [];
        inside = x ∷ xs;
        is = refl;
        out = tt;
        pass = (e, all-so (λ y. cmp x.0 y.0 ≡ Less) (λ y. is_from_start cmp lo y.0 ≡ true) (λ y less. from-on laws lo x.0 y.0 less e) xs up.0);
      }
      by false e c = record { outside = x ∷ c.outside; inside = c.inside; is = ap (λ l. x ∷ l) c.is; out = (e, c.out); pass = c.pass }

  -- the pairs up to an end bound, and those past it
  pub record EndCut (hi : Bound K) (xs : List (K × V)) : Type 0 where
    pub inside : List (K × V)
    pub outside : List (K × V)
    pub is : xs ≡ inside ++ outside
    pub pass : AllByRecursion (λ x. is_past_end cmp hi x.0 ≡ false) inside
    pub out : AllByRecursion (λ x. is_past_end cmp hi x.0 ≡ true) outside

  pub end-cut : (hi : Bound K) (xs : List (K × V)) → Rises cmp xs → EndCut hi xs
  end-cut hi [] up = record { inside = []; outside = []; is = refl; pass = tt; out = tt }
  end-cut hi (x ∷ xs) up = by (is_past_end cmp hi x.0) refl (end-cut hi xs up.1)
    where
      by : (b : Bool) → is_past_end cmp hi x.0 ≡ b → EndCut hi xs → EndCut hi (x ∷ xs)
      by true e c = record {
        inside = [];
        outside = x ∷ xs;
        is = refl;
        pass = tt;
        out = (e, all-so (λ y. cmp x.0 y.0 ≡ Less) (λ y. is_past_end cmp hi y.0 ≡ true) (λ y less. past-on laws hi x.0 y.0 less e) xs up.0);
      }
      by false e c = record { inside = x ∷ c.inside; outside = c.outside; is = ap (λ l. x ∷ l) c.is; pass = (e, c.pass); out = c.out }

  module _ (xs : List (K × V)) (up : Rises cmp xs) where
    -- the pairs from a start bound on are the last ones
    pub from-start : (lo : Bound K) → entries_between cmp lo Unbounded xs ≡ (start-cut lo xs up).inside
    from-start lo =
        let c = start-cut lo xs up in
        let test : K × V → Bool = λ x. range_contains cmp lo Unbounded x.0 in
        ap (filter test) c.is
        ∙ filter-later test c.outside c.inside
        (all-so (λ x. is_from_start cmp lo x.0 ≡ false) (λ x. test x ≡ false) (λ x e. ap (λ b. b && true) e) c.outside c.out)
        (all-so (λ x. is_from_start cmp lo x.0 ≡ true) (λ x. test x ≡ true) (λ x e. ap (λ b. b && true) e) c.inside c.pass)

    -- the pairs up to an end bound are the first ones
    pub until-end : (hi : Bound K) → entries_between cmp Unbounded hi xs ≡ (end-cut hi xs up).inside
    until-end hi =
        let c = end-cut hi xs up in
        let test : K × V → Bool = λ x. range_contains cmp Unbounded hi x.0 in
        ap (filter test) c.is
        ∙ filter-earlier test c.inside c.outside
        (all-so (λ x. is_past_end cmp hi x.0 ≡ false) (λ x. test x ≡ true) (λ x e. ap not e) c.inside c.pass)
        (all-so (λ x. is_past_end cmp hi x.0 ≡ true) (λ x. test x ≡ false) (λ x e. ap not e) c.outside c.out)

    -- those between two bounds are the first of those from the start bound on
    pub between-take : (lo hi : Bound K) (from until : List (K × V)) → entries_between cmp lo Unbounded xs ≡ from → entries_between cmp Unbounded hi xs ≡ until
        → entries_between cmp lo hi xs ≡ take (length until + length from - length xs) from
    between-take lo hi from until f u =
        let c = start-cut lo xs up in
        let d = end-cut hi xs up in
        let p : K × V → Bool = λ x. is_from_start cmp lo x.0 in
        let q : K × V → Bool = λ x. is_past_end cmp hi x.0 in
        let test : K × V → Bool = λ x. range_contains cmp lo hi x.0 in
        let fs : from ≡ c.inside = sym f ∙ from-start lo in
        let us : until ≡ d.inside = sym u ∙ until-end hi in
        let long = ap length c.is ∙ length-append c.outside c.inside in
        let fl = ap length fs in
        let ul = ap length us in
        let n : length until + length from - length xs ≡ length d.inside - length c.outside = omega arith in
        rw (n, fs)
        (ap (filter test) c.is
        ∙ filter-append test c.outside c.inside
        ∙ ap (λ l. l ++ filter test c.inside) (filter-none test c.outside (all-so (λ x. p x ≡ false) (λ x. test x ≡ false) (λ x e. ap (λ b. b && not (q x)) e) c.outside c.out))
        ∙ both-take p q c.outside c.inside d.inside d.outside (sym c.is ∙ d.is) c.pass d.pass d.out)

le-lt : (o : Ordering) → is_le o ≡ false → (is_lt o && true) ≡ false
le-lt Less e = absurd (cc)
le-lt Equal e = absurd (cc)
le-lt Greater e = refl

lt-le : (o : Ordering) → is_lt o ≡ true → not (is_le o) ≡ false
lt-le Less e = refl
lt-le Equal e = absurd (cc)
lt-le Greater e = absurd (cc)

le-other : (o : Ordering) → is_le o ≡ true → is_eq o ≡ false → o ≡ Less
le-other Less e n = refl
le-other Equal e n = absurd (cc)
le-other Greater e n = absurd (cc)

ge-other : (o : Ordering) → is_lt o ≡ false → is_eq o ≡ false → o ≡ Greater
ge-other Less e n = absurd (cc)
ge-other Equal e n = absurd (cc)
ge-other Greater e n = refl

-- an excluded key is left out of what is at it and after it, or before it
module _ {K V : Type 0} {cmp : K → K → Ordering} (laws : IsTotalOrder cmp) (k : K) (xs : List (K × V)) (up : Rises cmp xs) where
  abbrev after : K × V → Bool
  after x = is_lt (cmp k x.0) && true

  abbrev before : K × V → Bool
  before x = not (is_le (cmp k x.0))

  after-of : entries_between cmp (Excluded k) Unbounded xs ≡ filter after (start-cut laws (Included k) xs up).inside
  after-of =
      let c = start-cut laws (Included k) xs up in
      ap (filter after) c.is
      ∙ filter-append after c.outside c.inside
      ∙ ap (λ l. l ++ filter after c.inside) (filter-none after c.outside (all-so (λ x. is_le (cmp k x.0) ≡ false) (λ x. after x ≡ false) (λ x e. le-lt (cmp k x.0) e) c.outside c.out))

  before-of : entries_between cmp Unbounded (Excluded k) xs ≡ filter before (end-cut laws (Included k) xs up).inside
  before-of =
      let c = end-cut laws (Included k) xs up in
      ap (filter before) c.is
      ∙ filter-append before c.inside c.outside
      ∙ ap (λ l. filter before c.inside ++ l) (filter-none before c.outside (all-so (λ x. is_lt (cmp k x.0) ≡ true) (λ x. before x ≡ false) (λ x e. lt-le (cmp k x.0) e) c.outside c.out))
      ∙ append-nil (filter before c.inside)

  start-rises : Rises cmp (start-cut laws (Included k) xs up).inside
  start-rises = let c = start-cut laws (Included k) xs up in rises-right cmp c.outside c.inside (subst (λ l. Rises cmp l) c.is up)

  end-rises : Rises cmp (end-cut laws (Included k) xs up).inside
  end-rises = let c = end-cut laws (Included k) xs up in rises-left cmp c.inside c.outside (subst (λ l. Rises cmp l) c.is up)

  -- nothing is at the key or after it
  pub after-none : entries_between cmp (Included k) Unbounded xs ≡ [] → entries_between cmp (Excluded k) Unbounded xs ≡ []
  after-none none = after-of ∙ ap (filter after) (sym (from-start laws xs up (Included k)) ∙ none)

  pub before-none : entries_between cmp Unbounded (Included k) xs ≡ [] → entries_between cmp Unbounded (Excluded k) xs ≡ []
  before-none none = before-of ∙ ap (filter before) (sym (until-end laws xs up (Included k)) ∙ none)

  module _ (x : K × V) (rest : List (K × V)) (first : entries_between cmp (Included k) Unbounded xs ≡ x ∷ rest) where
    inside : (start-cut laws (Included k) xs up).inside ≡ x ∷ rest
    inside = sym (from-start laws xs up (Included k)) ∙ first

    rest-up : AllByRecursion (λ y. cmp x.0 y.0 ≡ Less) rest
    rest-up = (subst (λ l. Rises cmp l) inside start-rises).0

    -- the first one has the key
    pub after-key : is_eq (cmp k x.0) ≡ true → entries_between cmp (Excluded k) Unbounded xs ≡ rest
    after-key e =
        let same = equal-by (cmp k x.0) e in
        let here : after x ≡ false = ap (λ o. is_lt o && true) same in
        after-of ∙ ap (filter after) inside
        ∙ filter-later after (x ∷ []) rest (here, tt)
        (all-so (λ y. cmp x.0 y.0 ≡ Less) (λ y. after y ≡ true) (λ y less. ap (λ o. is_lt o && true) (laws.congr k x.0 y.0 same ∙ less)) rest rest-up)

    -- the first one has another key
    pub after-other : is_eq (cmp k x.0) ≡ false → entries_between cmp (Excluded k) Unbounded xs ≡ x ∷ rest
    after-other e =
        let pass = (subst (λ l. AllByRecursion (λ y. is_le (cmp k y.0) ≡ true) l) inside (start-cut laws (Included k) xs up).pass).0 in
        let low = le-other (cmp k x.0) pass e in
        after-of ∙ ap (filter after) inside
        ∙ filter-all after (x ∷ rest)
        (ap (λ o. is_lt o && true) low, all-so (λ y. cmp x.0 y.0 ≡ Less) (λ y. after y ≡ true) (λ y less. ap (λ o. is_lt o && true) (laws.trans k x.0 y.0 low less)) rest rest-up)

  module _ (x : K × V) (rest : List (K × V)) (last : entries_between cmp Unbounded (Included k) xs ≡ rest ++ x ∷ []) where
    inside-end : (end-cut laws (Included k) xs up).inside ≡ rest ++ x ∷ []
    inside-end = sym (until-end laws xs up (Included k)) ∙ last

    all-before : (ys : List (K × V)) → Rises cmp (ys ++ x ∷ []) → AllByRecursion (λ y. cmp y.0 x.0 ≡ Less) ys
    all-before [] u = tt
    all-before (y ∷ ys) u = ((AllByRecursion-right (λ z. cmp y.0 z.0 ≡ Less) ys (x ∷ []) u.0).0, all-before ys u.1)

    rest-low : AllByRecursion (λ y. cmp y.0 x.0 ≡ Less) rest
    rest-low = all-before rest (subst (λ l. Rises cmp l) inside-end end-rises)

    -- the last one has the key
    pub before-key : is_eq (cmp k x.0) ≡ true → entries_between cmp Unbounded (Excluded k) xs ≡ rest
    before-key e =
        let same = equal-by (cmp k x.0) e in
        let here : before x ≡ false = ap (λ o. not (is_le o)) same in
        before-of ∙ ap (filter before) inside-end
        ∙ filter-earlier before rest (x ∷ [])
        (all-so (λ y. cmp y.0 x.0 ≡ Less) (λ y. before y ≡ true) (λ y less. ap (λ o. not (is_le o)) (laws.congr k x.0 y.0 same ∙ reversed laws y.0 x.0 less)) rest rest-low)
        (here, tt)

    -- the last one has another key
    pub before-other : is_eq (cmp k x.0) ≡ false → entries_between cmp Unbounded (Excluded k) xs ≡ rest ++ x ∷ []
    before-other e =
        let pass = AllByRecursion-right (λ y. is_lt (cmp k y.0) ≡ false) rest (x ∷ []) (subst (λ l. AllByRecursion (λ y. is_lt (cmp k y.0) ≡ false) l) inside-end (end-cut laws (Included k) xs up).pass) in
        let high = ge-other (cmp k x.0) pass.0 e in
        let test = λ (y : K × V) (less : cmp y.0 x.0 ≡ Less). ap (λ o. not (is_le o)) (reversed laws y.0 k (laws.trans y.0 x.0 k less (reversed-back laws k x.0 high))) in
        before-of ∙ ap (filter before) inside-end
        ∙ filter-append before rest (x ∷ [])
        ∙ ap (λ l. l ++ filter before (x ∷ [])) (filter-all before rest (all-so (λ y. cmp y.0 x.0 ≡ Less) (λ y. before y ≡ true) test rest rest-low))
        ∙ ap (λ l. rest ++ l) (filter-all before (x ∷ []) (ap (λ o. not (is_le o)) high, tt))

-- without bounds, all pairs are between them
pub between-all : {K V : Type 0} (cmp : K → K → Ordering) (xs : List (K × V)) → entries_between cmp Unbounded Unbounded xs ≡ xs
between-all cmp [] = refl
between-all cmp (x ∷ xs) = ap (λ l. x ∷ l) (between-all cmp xs)
