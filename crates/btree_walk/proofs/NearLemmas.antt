-- A search for the last pair within an end bound: lists in parts.
use Rattle.btree_walk.proofs.Common.{◌≡◌, Bool, true, false, not, List, [], ◌∷◌, ◌++◌, Option, Some, None, option_map, refl, sym, ap, subst, ◌∙◌, append_assoc, append-nil, entries_between, range_contains, IsTotalOrder, AllByRecursion, filter, option_or, Ordering, Less, Bound, Unbounded, Rises, rises-left, rises-right, AllByRecursion-append, AllByRecursion-right, IsLast, pair_past}
use Rattle.std.proofs.lemmas.List.Elements.{filter-append}
use Rattle.btree_walk.specs.Near.{IsCut, IsLastOr, StopsAt}
use Rattle.btree_walk.proofs.BoundLemmas.{all-so, filter-all, filter-earlier, filter-none, past-on}

pub map-or : {A B : Type 0} (f : A → B) (one other : Option A) → option_map f (option_or one other) ≡ option_or (option_map f one) (option_map f other)
map-or f None other = refl
map-or f (Some x) other = refl

module _ {A : Type 0} where
  -- of a list, `inside` is within the bound, and its last element is known
  pub record IsCutting (past : A → Bool) (xs : List A) (last : Option A) (rest : List A) : Type 0 where
    pub inside : List A
    pub parts : xs ≡ inside ++ rest
    pub within : AllByRecursion (λ x. past x ≡ false) inside
    pub ended : IsLast inside last

  pub cutting-start : (past : A → Bool) (xs : List A) → IsCutting past xs None xs
  cutting-start past xs = record { inside = []; parts = refl; within = tt; ended = refl }

  pub cutting-next : (past : A → Bool) (xs : List A) (last : Option A) (rest : List A) → IsCutting past xs last rest → (x : A) (others : List A) → rest ≡ x ∷ others
      → past x ≡ false → IsCutting past xs (Some x) others
  cutting-next past xs last rest c x others is e = record {
    inside = c.inside ++ x ∷ [];
    parts = c.parts ∙ ap (λ l. c.inside ++ l) is ∙ sym (append_assoc c.inside (x ∷ []) others);
    within = AllByRecursion-append (λ y. past y ≡ false) c.inside (x ∷ []) c.within (e, tt);
    ended = (c.inside, refl);
  }

  pub cutting-stop : (past : A → Bool) (xs : List A) (last : Option A) (rest : List A) → IsCutting past xs last rest → (x : A) (others : List A) → rest ≡ x ∷ others
      → past x ≡ true → IsCut past xs last true
  cutting-stop past xs last rest c x others is e = record {
    inside = c.inside;
    outside = x ∷ others;
    parts = c.parts ∙ ap (λ l. c.inside ++ l) is;
    within = c.within;
    ended = c.ended;
    next = (refl, e);
  }

  pub cutting-end : (past : A → Bool) (xs : List A) (last : Option A) (rest : List A) → IsCutting past xs last rest → rest ≡ [] → IsCut past xs last false
  cutting-end past xs last rest c is = record {
    inside = c.inside;
    outside = [];
    parts = c.parts ∙ ap (λ l. c.inside ++ l) is;
    within = c.within;
    ended = c.ended;
    next = refl;
  }

module _ {K V : Type 0} {cmp : K → K → Ordering} (laws : IsTotalOrder cmp) (end : Bound K) where
  abbrev past : K × V → Bool
  past x = pair_past cmp end x

  abbrev pub AreWithin : List (K × V) → Type 0
  AreWithin xs = AllByRecursion (λ x. past x ≡ false) xs

  abbrev pub ArePast : List (K × V) → Type 0
  ArePast xs = AllByRecursion (λ x. past x ≡ true) xs

  abbrev pub within : List (K × V) → List (K × V)
  within xs = entries_between cmp Unbounded end xs

  abbrev test : K × V → Bool
  test x = range_contains cmp Unbounded end x.0

  -- what is before an item within the bound is within it
  pub within-before : (xs : List (K × V)) (x : K × V) (ys : List (K × V)) → Rises cmp (xs ++ x ∷ ys) → past x ≡ false → AreWithin (xs ++ x ∷ [])
  within-before [] x ys up e = (e, tt)
  within-before (z ∷ xs) x ys up e =
      let less : cmp z.0 x.0 ≡ Less = (AllByRecursion-right (λ w. cmp z.0 w.0 ≡ Less) xs (x ∷ ys) up.0).0 in
      (by (past z) refl less, within-before xs x ys up.1 e)
    where
      by : (b : Bool) → past z ≡ b → cmp z.0 x.0 ≡ Less → past z ≡ false
      by false is less = is
      by true is less = let no : past x ≡ true = past-on laws end z.0 x.0 less is in absurd (cc)

  -- what is after an item past the bound is past it
  pub past-after : (x : K × V) (ys : List (K × V)) → Rises cmp (x ∷ ys) → past x ≡ true → ArePast (x ∷ ys)
  past-after x ys up e = (e, all-so (λ y. cmp x.0 y.0 ≡ Less) (λ y. past y ≡ true) (λ y less. past-on laws end x.0 y.0 less e) ys up.0)

  -- of a list that rises, what is before a cut is what is within the bound
  pub cut-within : (xs : List (K × V)) → Rises cmp xs → (last : Option (K × V)) (stops : Bool) (cut : IsCut past xs last stops) → within xs ≡ cut.inside
  cut-within xs up last stops cut =
      ap (filter test) cut.parts
      ∙ filter-earlier test cut.inside cut.outside
      (all-so (λ x. past x ≡ false) (λ x. test x ≡ true) (λ x e. ap not e) cut.inside cut.within)
      (all-so (λ x. past x ≡ true) (λ x. test x ≡ false) (λ x e. ap not e) cut.outside (by cut.outside (rises-right cmp cut.inside cut.outside (subst (λ l. Rises cmp l) cut.parts up)) cut.next))
    where
      by : (ys : List (K × V)) → Rises cmp ys → StopsAt past ys stops → ArePast ys
      by [] up next = tt
      by (y ∷ ys) up next = past-after y ys up next.1

  -- of a list, `done` is within the bound, and its last pair is known; `below` is to be searched
  pub record Searching (whole : List (K × V)) (last : Option (K × V)) (below rest : List (K × V)) : Type 0 where
    pub done : List (K × V)
    pub parts : whole ≡ (done ++ below) ++ rest
    pub ended : IsLast done last
    pub done_within : AreWithin done

  pub search-start : (whole : List (K × V)) → Searching whole None whole []
  search-start whole = record { done = []; parts = sym (append-nil whole); ended = refl; done_within = tt }

  module _ (whole : List (K × V)) (up : Rises cmp whole) (last : Option (K × V)) (below rest : List (K × V)) (s : Searching whole last below rest) where
    rest-rises : Rises cmp rest
    rest-rises = rises-right cmp (s.done ++ below) rest (subst (λ l. Rises cmp l) s.parts up)

    pub below-rises : Rises cmp below
    below-rises = rises-right cmp s.done below (rises-left cmp (s.done ++ below) rest (subst (λ l. Rises cmp l) s.parts up))

    -- only a front of the list below is searched
    pub search-split : (front back : List (K × V)) → below ≡ front ++ back → Searching whole last front (back ++ rest)
    search-split front back is = record {
      done = s.done;
      parts = s.parts ∙ ap (λ l. (s.done ++ l) ++ rest) is ∙ (simp append_assoc);
      ended = s.ended;
      done_within = s.done_within;
    }

    -- a later item is within the bound
    pub search-on : (front : List (K × V)) (x : K × V) (new others : List (K × V)) → rest ≡ front ++ x ∷ (new ++ others) → past x ≡ false
        → Searching whole (Some x) new others
    search-on front x new others is e =
        let parts : whole ≡ ((s.done ++ below) ++ front) ++ x ∷ (new ++ others) =
        s.parts ∙ ap (λ l. (s.done ++ below) ++ l) is ∙ sym (append_assoc (s.done ++ below) front (x ∷ (new ++ others))) in
        record {
          done = ((s.done ++ below) ++ front) ++ x ∷ [];
          parts = parts ∙ (simp append_assoc);
          ended = ((s.done ++ below) ++ front, refl);
          done_within = within-before ((s.done ++ below) ++ front) x (new ++ others) (subst (λ l. Rises cmp l) parts up) e;
        }

    -- the rest begins past the bound
    pub search-past : (x : K × V) (ys : List (K × V)) → rest ≡ x ∷ ys → past x ≡ true → ArePast rest
    search-past x ys is e = rw is (past-after x ys (subst (λ l. Rises cmp l) is rest-rises) e)

    -- nothing after the list below is within the bound
    module _ (out : ArePast rest) where
      search-within : within whole ≡ s.done ++ within below
      search-within =
          ap (filter test) s.parts
          ∙ filter-append test (s.done ++ below) rest
          ∙ ap (λ l. l ++ filter test rest) (filter-append test s.done below)
          ∙ ap (λ l. (l ++ filter test below) ++ filter test rest) (filter-all test s.done (all-so (λ x. past x ≡ false) (λ x. test x ≡ true) (λ x e. ap not e) s.done s.done_within))
          ∙ ap (λ l. (s.done ++ filter test below) ++ l) (filter-none test rest (all-so (λ x. past x ≡ true) (λ x. test x ≡ false) (λ x e. ap not e) rest out))
          ∙ append-nil (s.done ++ filter test below)

      pub search-ends : (result : Option (K × V)) → IsLastOr (within below) last result → IsLast (within whole) result
      search-ends result found = by found.0 last found.1 s.ended found.2
        where
          by : (one other : Option (K × V)) → IsLast (within below) one → IsLast s.done other → result ≡ option_or one other → IsLast (within whole) result
          by None None is done e = rw e (search-within ∙ ap (λ l. s.done ++ l) is ∙ append-nil s.done ∙ done)
          by None (Some y) is done e = rw e (done.0, search-within ∙ ap (λ l. s.done ++ l) is ∙ append-nil s.done ∙ done.1)
          by (Some y) other is done e = rw e (s.done ++ is.0, search-within ∙ ap (λ l. s.done ++ l) is.1 ∙ sym (append_assoc s.done is.0 (y ∷ [])))
