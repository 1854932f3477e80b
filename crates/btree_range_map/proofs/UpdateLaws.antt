-- What callers conclude from an update, of each number: it has a value that the action returned for the one that it had, or
-- what a function makes of it, if the action is one; and of the action, by the number of its calls.
-- AreRuns, which they require, is a clause of `update`.
use Rattle.btree_range_map.proofs.Common.{◌≡◌, ◌≤◌, ◌<◌, ◌∙◌, ℕ, suc, true, false, cond, List, [], ◌∷◌, Option, Some, None, refl, sym, ap, subst, arith, ◌⊎◌, inl, inr, cases_Bool, cases_lt, Span, between-from, between-high, between-low, AreRuns, AscendFrom, is_between, is_within, ranges_meeting, value_at, between-below, between-above}
use Rattle.std.specs.Prelude.{◌+◌, ◌++◌, length, option_map}
use Rattle.std.proofs.lemmas.List.{append_assoc}
use Rattle.btree_range_map.specs.declared.refused.RangeRefused.{RangeRefused}
use Rattle.btree_range_map.specs.Series.{assigned_all}
use Rattle.btree_range_map.specs.Updates.{IsMapped, IsUpdated, IsUpdatedUntil, Returns, parts_between}
use Rattle.btree_range_map.proofs.RangeLaws.{starts-here}
use Rattle.btree_range_map.proofs.RunLemmas.{none-below}
use Rattle.btree_range_map.proofs.StepLemmas.{passed}
use Rattle.btree_range_map.proofs.UpdateLemmas.{ascend-parts, value-beside, value-parts}

-- ---- runs before others
module _ {V : Type 0} (p : ℕ × Span V) (rest : List (ℕ × Span V)) where
  ascend-before : (low : ℕ) (xs : List (ℕ × Span V)) → AscendFrom low (xs ++ p ∷ rest) → AscendFrom low xs
  ascend-before low [] runs = tt
  ascend-before low (x ∷ xs) runs = (runs.0, runs.1, ascend-before x.1.end xs runs.2)

  low-before : (low : ℕ) (xs : List (ℕ × Span V)) → AscendFrom low (xs ++ p ∷ rest) → low ≤ p.0
  low-before low [] runs = runs.0
  low-before low (x ∷ xs) runs = let later = low-before x.1.end xs runs.2 in omega (arith, later, runs.0, runs.1)

  value-before : (low : ℕ) (xs : List (ℕ × Span V)) (n : ℕ) → AscendFrom low (xs ++ p ∷ rest) → n < p.0 → value_at (xs ++ p ∷ rest) n ≡ value_at xs n
  value-before low [] n runs below = none-below p.0 (p ∷ rest) (omega arith, runs.1, runs.2) n below
  value-before low (x ∷ xs) n runs below = ap (λ v. cond (is_within x n) (Some x.1.value) v) (value-before x.1.end xs n runs.2 below)

  value-there : (low : ℕ) (xs : List (ℕ × Span V)) → AscendFrom low (xs ++ p ∷ rest) → value_at (xs ++ p ∷ rest) p.0 ≡ Some p.1.value
  value-there low [] runs = starts-here low p rest runs
  value-there low (x ∷ xs) runs =
      let later = low-before x.1.end xs runs.2 in
      sym (passed (is_within x p.0) (Some x.1.value) (value_at (xs ++ p ∷ rest) p.0) (between-above x.0 x.1.end p.0 later)) ∙ value-there x.1.end xs runs.2

  none-before : (low : ℕ) (xs : List (ℕ × Span V)) (n : ℕ) → AscendFrom low (xs ++ p ∷ rest) → p.0 ≤ n → value_at xs n ≡ None
  none-before low [] n runs from = refl
  none-before low (x ∷ xs) n runs from =
      let later = low-before x.1.end xs runs.2 in
      sym (passed (is_within x n) (Some x.1.value) (value_at xs n) (between-above x.0 x.1.end n (omega (arith, later, from))))
      ∙ none-before x.1.end xs n runs.2 from

module _ {F V : Type 0} (Step : F → V → V → F → Type 0) where
  -- a number that had a value has one that the action returned for it, and another number has none
  abbrev pub IsReturned : (before after : Option V) → Type 0
  IsReturned None after = after ≡ None
  IsReturned (Some v) after = (w : V) × (f : F) × (f' : F) × Step f v w f' × (after ≡ Some w)

  -- so it is with the value of a part, and a number of none has what it had
  abbrev IsGiven : (part before after : Option V) → Type 0
  IsGiven None before after = after ≡ before
  IsGiven (Some v) before after = IsReturned (Some v) after

  module _ (p : ℕ × Span V) (parts : List (ℕ × Span V)) (w : V) (map : ℕ → Option V) where
    -- the values after the numbers of a part were given w
    abbrev with_part : ℕ → Option V
    with_part n = cond (is_within p n) (Some w) (map n)

    given-first : (f f' : F) (n : ℕ) (after : Option V) → AscendFrom p.1.end parts → Step f p.1.value w f' → IsGiven (value_at parts n) (with_part n) after
        → IsGiven (value_at (p ∷ parts) n) (map n) after
    given-first f f' n after runs step later = by (cases_Bool (is_within p n)) where
      by : (is_within p n ≡ true) ⊎ (is_within p n ≡ false) → IsGiven (value_at (p ∷ parts) n) (map n) after
      by (inr out) =
          let value : value_at parts n ≡ value_at (p ∷ parts) n = passed (is_within p n) (Some p.1.value) (value_at parts n) out in
          let same : with_part n ≡ map n = sym (passed (is_within p n) (Some w) (map n) out) in
          subst (λ v. IsGiven (value_at (p ∷ parts) n) v after) same (subst (λ v. IsGiven v (with_part n) after) value later)
      by (inl inside) =
          let none : value_at parts n ≡ None = none-below p.1.end parts runs n (between-high p.0 p.1.end n inside) in
          let is : with_part n ≡ Some w = rw inside refl in
          let here : Some p.1.value ≡ value_at (p ∷ parts) n = rw inside refl in
          subst (λ v. IsGiven v (map n) after) here (w, f, f', step, subst (λ v. IsGiven v (with_part n) after) none later ∙ is)

  given-values : (f f' : F) (low : ℕ) (parts given : List (ℕ × Span V)) → AscendFrom low parts → Returns Step f parts given f' → (map : ℕ → Option V) (n : ℕ)
      → IsGiven (value_at parts n) (map n) (assigned_all given map n)
  given-values f f' low [] given runs is map n = ap (λ l. assigned_all l map n) is.0
  given-values f f' low (p ∷ parts) given runs is map n =
      let later = given-values is.1 f' p.1.end parts is.2 runs.2 is.4 (with_part p parts is.0 map) n in
      subst (λ l. IsGiven (value_at (p ∷ parts) n) (map n) (assigned_all l map n)) (sym is.5)
      (given-first p parts is.0 map f is.1 n (assigned_all is.2 (with_part p parts is.0 map) n) runs.2 is.3 later)

  given-returned : (part before after : Option V) → part ≡ before → IsGiven part before after → IsReturned before after
  given-returned None before after same is = subst (λ b. IsReturned b after) same (is ∙ sym same)
  given-returned (Some v) before after same is = subst (λ b. IsReturned b after) same is

  given-same : (part before after : Option V) → part ≡ None → IsGiven part before after → after ≡ before
  given-same None before after none is = is
  given-same (Some v) before after none is = absurd (cc)

  module _ (f f' : F) (old new : List (ℕ × Span V)) (s e : ℕ) (runs : AreRuns old) (n : ℕ) where
    ascend : AscendFrom 0 (parts_between s e old)
    ascend = ascend-parts s e 0 old runs.ascend

    module _ (is : IsUpdated Step f f' (parts_between s e old) old new) where
      now-given : IsGiven (value_at (parts_between s e old) n) (value_at old n) (value_at new n)
      now-given =
          subst (λ v. IsGiven (value_at (parts_between s e old) n) (value_at old n) v) (sym (is.assigned n))
          (given-values f f' 0 (parts_between s e old) is.given ascend is.returns (value_at old) n)

      -- after an update, a number from its start to below its end has a value that was returned for the one that it had
      pub updated-value : is_between s e n ≡ true → IsReturned (value_at old n) (value_at new n)
      updated-value inside = given-returned _ _ _ (value-parts s e n old inside) now-given

      -- another number has what it had
      pub updated-other : is_between s e n ≡ false → value_at new n ≡ value_at old n
      updated-other out = given-same _ _ _ (value-beside s e n (ranges_meeting s e old) out) now-given

  -- ---- an update that was refused
  -- the calls before the last one
  record CallsBefore (f : F) (called given : List (ℕ × Span V)) (x : ℕ × Span V) : Type 0 where
    pub before : List (ℕ × Span V)
    pub part : ℕ × Span V
    pub split : called ≡ before ++ part ∷ []
    pub start : part.0 ≡ x.0
    pub now : F
    pub returns : Returns Step f before given now

  calls-before : (f f' : F) (called given : List (ℕ × Span V)) (x : ℕ × Span V) → Returns Step f called (given ++ x ∷ []) f' → CallsBefore f called given x
  calls-before f f' [] [] x is = let none = is.0 in absurd (cc)
  calls-before f f' [] (g ∷ given) x is = let none = is.0 in absurd (cc)
  calls-before f f' (p ∷ []) [] x is =
      let same = is.5 in
      let first : x ≡ (p.0, record { end = p.1.end; value = is.0 }) = cc in
      record { before = []; part = p; split = refl; start = sym (ap (λ (z : ℕ × Span V). z.0) first); now = f; returns = (refl, refl) }
  calls-before f f' (p ∷ q ∷ called) [] x is =
      let same = is.5 in
      let none : is.2 ≡ [] = cc in
      let more = is.4.5 in
      absurd (cc)
  calls-before f f' (p ∷ called) (g ∷ given) x is =
      let same = is.5 in
      let first : g ≡ (p.0, record { end = p.1.end; value = is.0 }) = cc in
      let rest : is.2 ≡ given ++ x ∷ [] = cc in
      let r = calls-before is.1 f' called given x (subst (λ l. Returns Step is.1 called l f') rest is.4) in
      record {
        before = p ∷ r.before;
        part = r.part;
        split = ap (λ l. p ∷ l) r.split;
        start = r.start;
        now = r.now;
        returns = (is.0, is.1, given, is.3, r.returns, ap (λ z. z ∷ given) first);
      }

  module _ (f f' : F) (old new : List (ℕ × Span V)) (s e : ℕ) (refused : RangeRefused (Span V)) (runs : AreRuns old) (is : IsUpdatedUntil Step f f' (parts_between s e old) old new refused) (n : ℕ) where
    calls : CallsBefore f is.called is.given (refused.key, refused.value)
    calls = calls-before f f' is.called is.given (refused.key, refused.value) is.returns

    all : parts_between s e old ≡ calls.before ++ calls.part ∷ is.rest
    all = is.split ∙ ap (λ l. l ++ is.rest) calls.split ∙ append_assoc calls.before (calls.part ∷ []) is.rest

    ascends : AscendFrom 0 (calls.before ++ calls.part ∷ is.rest)
    ascends = subst (AscendFrom 0) all (ascend-parts s e 0 old runs.ascend)

    given-now : IsGiven (value_at calls.before n) (value_at old n) (value_at new n)
    given-now =
        subst (λ v. IsGiven (value_at calls.before n) (value_at old n) v) (sym (is.assigned n))
        (given-values f calls.now 0 calls.before is.given (ascend-before calls.part is.rest 0 calls.before ascends) calls.returns (value_at old) n)

    -- below the refused numbers, a number has a value that was returned for the one that it had
    pub stopped-value : is_between s e n ≡ true → n < refused.key → IsReturned (value_at old n) (value_at new n)
    stopped-value inside below =
        let start = calls.start in
        given-returned _ _ _
        (sym (value-before calls.part is.rest 0 calls.before n ascends (omega (arith, start, below))) ∙ sym (ap (λ l. value_at l n) all) ∙ value-parts s e n old inside)
        given-now

    -- from there on each number has what it had
    pub stopped-same : refused.key ≤ n → value_at new n ≡ value_at old n
    stopped-same from = let start = calls.start in given-same _ _ _ (none-before calls.part is.rest 0 calls.before n ascends (omega (arith, start, from))) given-now

    -- so has each that was not to be updated
    pub stopped-other : is_between s e n ≡ false → value_at new n ≡ value_at old n
    stopped-other out = elim (cases_lt n refused.key) [
      | inr from ↦ stopped-same from
      | inl below ↦
          let start = calls.start in
          given-same _ _ _
          (sym (value-before calls.part is.rest 0 calls.before n ascends (omega (arith, start, below))) ∙ sym (ap (λ l. value_at l n) all) ∙ value-beside s e n (ranges_meeting s e old) out)
          given-now
    ]

    -- the refused numbers are among those that were to be updated
    stopped-inside : is_between s e refused.key ≡ true
    stopped-inside = by (cases_Bool (is_between s e refused.key)) where
      here : value_at (parts_between s e old) refused.key ≡ Some calls.part.1.value
      here = ap (value_at (parts_between s e old)) (sym calls.start) ∙ ap (λ l. value_at l calls.part.0) all ∙ value-there calls.part is.rest 0 calls.before ascends

      by : (is_between s e refused.key ≡ true) ⊎ (is_between s e refused.key ≡ false) → is_between s e refused.key ≡ true
      by (inl inside) = inside
      by (inr out) = let some = here in let none = value-beside s e refused.key (ranges_meeting s e old) out in absurd (cc)

  -- ---- what the calls leave of the action
  module _ (J : F → ℕ → F → Type 0) (keeps : (f : F) (k : ℕ) (p q : F) (v w : V) → J f k p → Step p v w q → J f (suc k) q) where
    returns-keep : (f : F) (k : ℕ) (p q : F) (parts given : List (ℕ × Span V)) → J f k p → Returns Step p parts given q → J f (length parts + k) q
    returns-keep f k p q [] given holds is =
        let same : k ≡ 0 + k = omega arith in
        subst (λ (m : ℕ). J f m q) same (subst (λ (z : F). J f k z) (sym is.1) holds)
    returns-keep f k p q (part ∷ parts) given holds is =
        let later : J f (length parts + suc k) q = returns-keep f (suc k) is.1 q parts is.2 (keeps f k p is.1 part.1.value is.0 holds is.3) is.4 in
        let same : length parts + suc k ≡ suc (length parts) + k = omega arith in
        subst (λ (m : ℕ). J f m q) same later

    all-keep : (f q : F) (parts given : List (ℕ × Span V)) → J f 0 f → Returns Step f parts given q → J f (length parts) q
    all-keep f q parts given holds is =
        let same : length parts + 0 ≡ length parts = omega arith in
        subst (λ (m : ℕ). J f m q) same (returns-keep f 0 f q parts given holds is)

    -- what each call keeps, with one more to the number of calls, is so after as many calls as there are parts
    pub updated-keeps : {f f' : F} {parts old new : List (ℕ × Span V)} → IsUpdated Step f f' parts old new → J f 0 f → J f (length parts) f'
    updated-keeps {f} {f'} {parts} is holds = all-keep f f' parts is.given holds is.returns

    -- or after the calls up to the one whose value was refused
    pub stopped-keeps : {f f' : F} {parts old new : List (ℕ × Span V)} {refused : RangeRefused (Span V)} (is : IsUpdatedUntil Step f f' parts old new refused)
        → J f 0 f → J f (length is.called) f'
    stopped-keeps {f} {f'} {parts} {old} {new} {refused} is holds = all-keep f f' is.called (is.given ++ (refused.key, refused.value) ∷ []) holds is.returns

-- ---- an action that is a function of the value
module _ {V : Type 0} (g : V → V) where
  returned-by : (F : Type 0) (before after : Option V) → IsReturned (λ (p : F) v w (q : F). w ≡ g v) before after → after ≡ option_map g before
  returned-by F None after is = is
  returned-by F (Some v) after is = is.4 ∙ ap (λ w. Some w) is.3

  mapped : (old new : List (ℕ × Span V)) (s e n : ℕ) → (is_between s e n ≡ true → value_at new n ≡ option_map g (value_at old n)) → (is_between s e n ≡ false → value_at new n ≡ value_at old n)
      → value_at new n ≡ cond (is_between s e n) (option_map g (value_at old n)) (value_at old n)
  mapped old new s e n within beside = by (cases_Bool (is_between s e n)) where
    by : (is_between s e n ≡ true) ⊎ (is_between s e n ≡ false) → value_at new n ≡ cond (is_between s e n) (option_map g (value_at old n)) (value_at old n)
    by (inl inside) = rw inside (within inside)
    by (inr out) = rw out (beside out)

module _ {F V : Type 0} (g : V → V) where
  -- a call returns what the function makes of the value
  abbrev Gives : F → V → V → F → Type 0
  Gives p v w q = w ≡ g v

  given-all : (f f' : F) (old new : List (ℕ × Span V)) (s e : ℕ) → AreRuns old → IsUpdated Gives f f' (parts_between s e old) old new → IsMapped g old s e new
  given-all f f' old new s e runs is n = mapped g old new s e n (λ inside. returned-by g F _ _ (updated-value Gives f f' old new s e runs n is inside)) (updated-other Gives f f' old new s e runs n is)

  given-until : (f f' : F) (old new : List (ℕ × Span V)) (s e : ℕ) (refused : RangeRefused (Span V)) → AreRuns old
      → IsUpdatedUntil Gives f f' (parts_between s e old) old new refused → IsMapped g old s refused.key new
  given-until f f' old new s e refused runs is n = mapped g old new s refused.key n within beside where
    within : is_between s refused.key n ≡ true → value_at new n ≡ option_map g (value_at old n)
    within inside =
        let low = between-low s refused.key n inside in
        let below = between-high s refused.key n inside in
        let end = between-high s e refused.key (stopped-inside Gives f f' old new s e refused runs is n) in
        returned-by g F _ _ (stopped-value Gives f f' old new s e refused runs is n (between-from s e n low (omega (arith, below, end))) below)

    beside : is_between s refused.key n ≡ false → value_at new n ≡ value_at old n
    beside out = elim (cases_lt n refused.key) [
      | inr from ↦ stopped-same Gives f f' old new s e refused runs is n from
      | inl below ↦ elim (cases_lt n s) [
        | inl less ↦ stopped-other Gives f f' old new s e refused runs is n (between-below s e n less)
        | inr low ↦ let yes = between-from s refused.key n low below in absurd (cc)
      ]
    ]

  module _ (Step : F → V → V → F → Type 0) (K : F → Type 0) (keeps : (p q : F) (v w : V) → K p → Step p v w q → K q × (w ≡ g v)) where
    gives : (f f' : F) (parts given : List (ℕ × Span V)) → K f → Returns Step f parts given f' → Returns Gives f parts given f'
    gives f f' [] given holds is = is
    gives f f' (part ∷ parts) given holds is =
        let one = keeps f is.1 part.1.value is.0 holds is.3 in
        (is.0, is.1, is.2, one.1, gives is.1 f' parts is.2 one.0 is.4, is.5)

    -- if the action returns what a function makes of the value, as long as its calls keep this, each number has it
    pub updated-as : {f f' : F} {old new : List (ℕ × Span V)} (s e : ℕ) → K f → AreRuns old → IsUpdated Step f f' (parts_between s e old) old new → IsMapped g old s e new
    updated-as {f} {f'} {old} {new} s e holds runs is =
        given-all f f' old new s e runs (record { given = is.given; returns = gives f f' (parts_between s e old) is.given holds is.returns; assigned = is.assigned })

    -- so has each below the refused numbers, and the others have what they had
    pub stopped-as : {f f' : F} {old new : List (ℕ × Span V)} (s e : ℕ) → K f → AreRuns old → (refused : RangeRefused (Span V))
        → IsUpdatedUntil Step f f' (parts_between s e old) old new refused → IsMapped g old s refused.key new
    stopped-as {f} {f'} {old} {new} s e holds runs refused is =
        given-until f f' old new s e refused runs
        (record {
          called = is.called;
          rest = is.rest;
          split = is.split;
          given = is.given;
          returns = gives f f' is.called (is.given ++ (refused.key, refused.value) ∷ []) holds is.returns;
          assigned = is.assigned;
        })

  module _ (Step : F → V → V → F → Type 0) {f : F} (gives : (v w : V) (q : F) → Step f v w q → (q ≡ f) × (w ≡ g v)) where
    same-gives : (p q : F) (v w : V) → p ≡ f → Step p v w q → (q ≡ f) × (w ≡ g v)
    same-gives p q v w same step = gives v w q (subst (λ (z : F). Step z v w q) same step)

    -- if the action returns what a function makes of the value, and changes nothing, each number has it
    pub updated-by : {f' : F} {old new : List (ℕ × Span V)} (s e : ℕ) → AreRuns old → IsUpdated Step f f' (parts_between s e old) old new → IsMapped g old s e new
    updated-by s e runs is = updated-as Step (λ p. p ≡ f) same-gives s e refl runs is

    -- so has each below the refused numbers, and the others have what they had
    pub stopped-by : {f' : F} {old new : List (ℕ × Span V)} (s e : ℕ) → AreRuns old → (refused : RangeRefused (Span V))
        → IsUpdatedUntil Step f f' (parts_between s e old) old new refused → IsMapped g old s refused.key new
    stopped-by s e runs refused is = stopped-as Step (λ p. p ≡ f) same-gives s e refl runs refused is
