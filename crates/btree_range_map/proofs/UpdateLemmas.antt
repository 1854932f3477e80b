-- Updates, by one part more.
use Rattle.btree_range_map.proofs.Common.{◌≡◌, ◌<◌, ◌≤◌, ◌∙◌, ℕ, zero, suc, max, min, Bool, true, false, cond, List, [], ◌∷◌, slice_get, Option, Some, None, refl, sym, ap, subst, arith, ◌⊎◌, inl, inr, cases_Bool, cases_lt, same_Some, le-ltb, Span, between-from, between-high, between-low, AreRuns, AscendFrom, IsAssigned, is_between, is_within, meets, ranges_meeting, value_at, between-below, between-above}
use Rattle.std.proofs.Common.{nat_lt}
use Rattle.std.specs.Prelude.{◌++◌, map}
use Rattle.std.proofs.lemmas.Bool.{ltb-false, ltb-true}
use Rattle.std.proofs.lemmas.List.{append-nil, append_assoc}
use Rattle.btree_range_map.specs.declared.refused.RangeRefused.{RangeRefused}
use Rattle.btree_range_map.specs.CallerLaws.{value-meeting}
use Rattle.btree_range_map.specs.Ranges.{DifferWhereTheyTouch}
use Rattle.btree_range_map.specs.Series.{AreAssigned, assigned_all}
use Rattle.btree_range_map.specs.Updates.{IsFirstPart, IsUpdated, IsUpdatedUntil, Returns, part_between, parts_between}
use Rattle.btree_range_map.proofs.RangeLaws.{past-end, same-runs}
use Rattle.btree_range_map.proofs.RunLemmas.{run-at, value-here, weaken}
use Rattle.btree_range_map.proofs.StepLemmas.{passed}

-- ---- the parts of some numbers that have a value
module _ {V : Type 0} where
  part-some : (s e : ℕ) (x : ℕ × Span V) → meets s e x ≡ true → max s x.0 < min e x.1.end
  part-some s e x is = ltb-true (max s x.0) (min e x.1.end) is

  pub ascend-parts : (s e low : ℕ) (xs : List (ℕ × Span V)) → AscendFrom low xs → AscendFrom low (parts_between s e xs)
  ascend-parts s e low [] runs = tt
  ascend-parts s e low (x ∷ xs) runs = by (meets s e x) refl (ascend-parts s e x.1.end xs runs.2) where
    by : (b : Bool) → meets s e x ≡ b → AscendFrom x.1.end (parts_between s e xs)
        → AscendFrom low (map (part_between s e) (cond b (x ∷ ranges_meeting s e xs) (ranges_meeting s e xs)))
    by true is rest =
        let some = part-some s e x is in
        (omega (arith, runs.0), omega (arith, some), weaken x.1.end (min e x.1.end) (parts_between s e xs) (omega arith) rest)
    by false is rest = weaken x.1.end low (parts_between s e xs) (omega (arith, runs.0, runs.1)) rest

  -- among these numbers each one has its value
  within-part : (s e n : ℕ) (x : ℕ × Span V) → is_between s e n ≡ true → is_within (part_between s e x) n ≡ is_within x n
  within-part s e n x inside =
      let low = between-low s e n inside in
      let high = between-high s e n inside in
      elim (cases_lt n x.0) [
        | inl below ↦ between-below (max s x.0) (min e x.1.end) n (omega (arith, below)) ∙ sym (between-below x.0 x.1.end n below)
        | inr from ↦ elim (cases_lt n x.1.end) [
          | inl lt ↦ between-from (max s x.0) (min e x.1.end) n (omega (arith, low, from)) (omega (arith, high, lt)) ∙ sym (between-from x.0 x.1.end n from lt)
          | inr above ↦ between-above (max s x.0) (min e x.1.end) n (omega (arith, above)) ∙ sym (between-above x.0 x.1.end n above)
        ]
      ]

  value-cut : (s e n : ℕ) (xs : List (ℕ × Span V)) → is_between s e n ≡ true → value_at (map (part_between s e) xs) n ≡ value_at xs n
  value-cut s e n [] inside = refl
  value-cut s e n (x ∷ xs) inside =
      ap (λ v. cond (is_within (part_between s e x) n) (Some x.1.value) v) (value-cut s e n xs inside)
      ∙ ap (λ b. cond b (Some x.1.value) (value_at xs n)) (within-part s e n x inside)

  pub value-parts : (s e n : ℕ) (xs : List (ℕ × Span V)) → is_between s e n ≡ true → value_at (parts_between s e xs) n ≡ value_at xs n
  value-parts s e n xs inside = value-cut s e n (ranges_meeting s e xs) inside ∙ value-meeting s e n xs inside

  -- no other number has one
  outside-part : (s e n : ℕ) (x : ℕ × Span V) → is_between s e n ≡ false → is_within (part_between s e x) n ≡ false
  outside-part s e n x out = elim (cases_lt n s) [
    | inl below ↦ between-below (max s x.0) (min e x.1.end) n (omega (arith, below))
    | inr from ↦ elim (cases_lt n e) [
      | inl lt ↦ let yes = between-from s e n from lt in absurd (cc)
      | inr above ↦ between-above (max s x.0) (min e x.1.end) n (omega (arith, above))
    ]
  ]

  pub value-beside : (s e n : ℕ) (xs : List (ℕ × Span V)) → is_between s e n ≡ false → value_at (map (part_between s e) xs) n ≡ None
  value-beside s e n [] out = refl
  value-beside s e n (x ∷ xs) out = sym (passed (is_within (part_between s e x) n) (Some x.1.value) (value_at (map (part_between s e) xs) n) (outside-part s e n x out)) ∙ value-beside s e n xs out

  -- they are runs
  differ-first : (s e : ℕ) (x : ℕ × Span V) (xs : List (ℕ × Span V)) → AscendFrom x.1.end xs → DifferWhereTheyTouch (x ∷ xs) → (b : ℕ × Span V)
      → slice_get (parts_between s e xs) zero ≡ Some b → min e x.1.end ≡ b.0 → x.1.value ≡ b.1.value → ⊥
  differ-first s e x xs runs differ b at touch value = by (cases_Bool (is_between s e b.0)) where
    ascend : AscendFrom x.1.end (parts_between s e xs)
    ascend = ascend-parts s e x.1.end xs runs

    has : value_at (parts_between s e xs) b.0 ≡ Some b.1.value
    has = let here = run-at x.1.end (parts_between s e xs) zero b ascend at in
        value-here x.1.end (parts_between s e xs) zero b ascend at b.0 (between-from b.0 b.1.end b.0 (omega arith) here.1)

    by : (is_between s e b.0 ≡ true) ⊎ (is_between s e b.0 ≡ false) → ⊥
    by (inr out) = let some = has in let none = value-beside s e b.0 (ranges_meeting s e xs) out in absurd (cc)
    by (inl inside) =
        let high = between-high s e b.0 inside in
        let start : b.0 ≡ x.1.end = omega (arith, touch, high) in
        past-end x xs b.1.value runs differ value (sym (ap (value_at xs) start) ∙ sym (value-parts s e b.0 xs inside) ∙ has)

  differ-parts : (s e low : ℕ) (xs : List (ℕ × Span V)) → AscendFrom low xs → DifferWhereTheyTouch xs → DifferWhereTheyTouch (parts_between s e xs)
  differ-parts s e low [] runs differ = λ q a b here next touch value. absurd (cc)
  differ-parts s e low (x ∷ xs) runs differ = by (meets s e x) (differ-parts s e x.1.end xs runs.2 (λ q a b here next. differ (suc q) a b here next)) where
    by : (b : Bool) → DifferWhereTheyTouch (parts_between s e xs)
        → DifferWhereTheyTouch (map (part_between s e) (cond b (x ∷ ranges_meeting s e xs) (ranges_meeting s e xs)))
    by false rest = rest
    by true rest = at where
      at : DifferWhereTheyTouch (part_between s e x ∷ parts_between s e xs)
      at zero a b here next touch value =
          let same : part_between s e x ≡ a = same_Some _ _ here in
          let end : min e x.1.end ≡ a.1.end = ap (λ (z : ℕ × Span V). z.1.end) same in
          let is : x.1.value ≡ a.1.value = ap (λ (z : ℕ × Span V). z.1.value) same in
          differ-first s e x xs runs.2 differ b next (end ∙ touch) (is ∙ value)
      at (suc q) a b here next touch value = rest q a b here next touch value

  parts-runs : (s e : ℕ) (xs : List (ℕ × Span V)) → AreRuns xs → AreRuns (parts_between s e xs)
  parts-runs s e xs runs = record { ascend = ascend-parts s e 0 xs runs.ascend; differ = differ-parts s e 0 xs runs.ascend runs.differ }

  -- two maps that give the same values from `s` on have the same parts there
  pub parts-same : (s e : ℕ) (xs ys : List (ℕ × Span V)) → AreRuns xs → AreRuns ys → ((n : ℕ) → s ≤ n → value_at xs n ≡ value_at ys n)
      → parts_between s e xs ≡ parts_between s e ys
  parts-same s e xs ys runs others same = same-runs (parts_between s e xs) (parts_between s e ys) (parts-runs s e xs runs) (parts-runs s e ys others) (λ n. by n (cases_Bool (is_between s e n))) where
    by : (n : ℕ) → (is_between s e n ≡ true) ⊎ (is_between s e n ≡ false) → value_at (parts_between s e xs) n ≡ value_at (parts_between s e ys) n
    by n (inl inside) = value-parts s e n xs inside ∙ same n (between-low s e n inside) ∙ sym (value-parts s e n ys inside)
    by n (inr out) = value-beside s e n (ranges_meeting s e xs) out ∙ sym (value-beside s e n (ranges_meeting s e ys) out)

  -- ---- the first of them
  skip-first : (s e : ℕ) (x : ℕ × Span V) (xs : List (ℕ × Span V)) → meets s e x ≡ false → parts_between s e (x ∷ xs) ≡ parts_between s e xs
  skip-first s e x xs is = ap (λ b. map (part_between s e) (cond b (x ∷ ranges_meeting s e xs) (ranges_meeting s e xs))) is

  take-first : (s e : ℕ) (x : ℕ × Span V) (xs : List (ℕ × Span V)) → meets s e x ≡ true → parts_between s e (x ∷ xs) ≡ part_between s e x ∷ parts_between s e xs
  take-first s e x xs is = ap (λ b. map (part_between s e) (cond b (x ∷ ranges_meeting s e xs) (ranges_meeting s e xs))) is

  -- ranges that start from `low` on have the same parts from a lower number on
  parts-from : (s t e low : ℕ) (xs : List (ℕ × Span V)) → AscendFrom low xs → s ≤ low → t ≤ low → parts_between s e xs ≡ parts_between t e xs
  parts-from s t e low [] runs le le2 = refl
  parts-from s t e low (x ∷ xs) runs le le2 =
      by (meets s e x) (meets t e x) (ap (λ k. nat_lt k (min e x.1.end)) start) (parts-from s t e x.1.end xs runs.2 (omega (arith, le, runs.0, runs.1)) (omega (arith, le2, runs.0, runs.1)))
    where
      start : max s x.0 ≡ max t x.0
      start = omega (arith, le, le2, runs.0)

      by : (b c : Bool) → b ≡ c → parts_between s e xs ≡ parts_between t e xs
          → map (part_between s e) (cond b (x ∷ ranges_meeting s e xs) (ranges_meeting s e xs)) ≡ map (part_between t e) (cond c (x ∷ ranges_meeting t e xs) (ranges_meeting t e xs))
      by true true is rest =
          let first : part_between s e x ≡ part_between t e x = ap (λ (k : ℕ). (k, record { end = min e x.1.end; value = x.1.value })) start in
          ap (λ (z : ℕ × Span V). z ∷ parts_between s e xs) first ∙ ap (λ l. part_between t e x ∷ l) rest
      by false false is rest = rest
      by true false is rest = absurd (cc)
      by false true is rest = absurd (cc)

  pub first-part : (s e low : ℕ) (xs : List (ℕ × Span V)) → AscendFrom low xs → (p : ℕ × Span V) (rest : List (ℕ × Span V)) → parts_between s e xs ≡ p ∷ rest → IsFirstPart xs s e p
  first-part s e low [] runs p rest is = absurd (cc)
  first-part s e low (x ∷ xs) runs p rest is = by (meets s e x) refl is (first-part s e x.1.end xs runs.2 p rest) where
    here : meets s e x ≡ true → IsFirstPart (x ∷ xs) s e (part_between s e x)
    here sure =
        let lt = part-some s e x sure in
        let end = min e x.1.end in
        record {
          some = lt;
          low = omega arith;
          high = omega arith;
          first = take-first s e x xs sure
              ∙ ap (λ l. part_between s e x ∷ l)
              (parts-from s end e x.1.end xs runs.2 (omega (arith, lt)) (omega arith) ∙ sym (skip-first end e x xs (le-ltb (max end x.0) end (omega arith))));
        }

    by : (b : Bool) → meets s e x ≡ b → map (part_between s e) (cond b (x ∷ ranges_meeting s e xs) (ranges_meeting s e xs)) ≡ p ∷ rest
        → (parts_between s e xs ≡ p ∷ rest → IsFirstPart xs s e p) → IsFirstPart (x ∷ xs) s e p
    by true sure same later = let first : part_between s e x ≡ p = cc in subst (λ (z : ℕ × Span V). IsFirstPart (x ∷ xs) s e z) first (here sure)
    by false sure same later =
        let r = later same in
        let none = ltb-false (max s x.0) (min e x.1.end) sure in
        record {
          some = r.some;
          low = r.low;
          high = r.high;
          first = skip-first s e x xs sure ∙ r.first
              ∙ ap (λ l. p ∷ l) (sym (skip-first p.1.end e x xs (le-ltb (max p.1.end x.0) (min e x.1.end) (omega (arith, none, r.low, r.some)))));
        }

-- ---- one call more
-- a part with another value
abbrev pub with_value : {V : Type 0} → ℕ × Span V → V → ℕ × Span V
with_value part w = (part.0, record { end = part.1.end; value = w })

module _ {V : Type 0} where
  assigned-last : (given : List (ℕ × Span V)) (x : ℕ × Span V) (map : ℕ → Option V) (n : ℕ)
      → assigned_all (given ++ x ∷ []) map n ≡ cond (is_within x n) (Some x.1.value) (assigned_all given map n)
  assigned-last [] x map n = refl
  assigned-last (g ∷ given) x map n = assigned-last given x (λ m. cond (is_within g m) (Some g.1.value) (map m)) n

module _ {F V : Type 0} (Step : F → V → V → F → Type 0) where
  returns-last : (f f1 f2 : F) (parts given : List (ℕ × Span V)) (part : ℕ × Span V) (w : V) → Returns Step f parts given f1 → Step f1 part.1.value w f2
      → Returns Step f (parts ++ part ∷ []) (given ++ with_value part w ∷ []) f2
  returns-last f f1 f2 [] given part w is step =
      (w, f2, [], subst (λ k. Step k part.1.value w f2) is.1 step, (refl, refl), ap (λ l. l ++ with_value part w ∷ []) is.0)
  returns-last f f1 f2 (p ∷ parts) given part w is step =
      (is.0, is.1, is.2 ++ with_value part w ∷ [], is.3, returns-last is.1 f1 f2 parts is.2 part w is.4 step, ap (λ l. l ++ with_value part w ∷ []) is.5)

  module _ (action : F) (old : List (ℕ × Span V)) (start end : ℕ) where
    -- the parts below `from` were given what the action returned; from there on each number has what it had. The ranges before
    -- were runs, if these are
    pub record IsUpdatedBelow (from : ℕ) (now : F) (mid : List (ℕ × Span V)) : Type 0 where
      pub low : start ≤ from
      pub runs : AreRuns mid → AreRuns old
      pub called : List (ℕ × Span V)
      pub split : parts_between start end old ≡ called ++ parts_between from end old
      pub given : List (ℕ × Span V)
      pub returns : Returns Step action called given now
      pub assigned : AreAssigned old given mid
      pub same : (n : ℕ) → from ≤ n → value_at mid n ≡ value_at old n

    pub updated-start : IsUpdatedBelow start action old
    updated-start = record {
      low = omega arith;
      runs = λ runs. runs;
      called = [];
      split = refl;
      given = [];
      returns = (refl, refl);
      assigned = λ n. refl;
      same = λ n le. refl;
    }

    module _ (from : ℕ) (now : F) (mid : List (ℕ × Span V)) (is : IsUpdatedBelow from now mid) (mid_runs : AreRuns mid) where
      -- no part is left
      pub updated-end : parts_between from end mid ≡ [] → IsUpdated Step action now (parts_between start end old) old mid
      updated-end none =
          let all : parts_between start end old ≡ is.called =
          is.split ∙ ap (λ l. is.called ++ l) (parts-same from end old mid (is.runs mid_runs) mid_runs (λ n le. sym (is.same n le)) ∙ none) ∙ append-nil is.called in
          record {
            given = is.given;
            returns = subst (λ l. Returns Step action l is.given now) (sym all) is.returns;
            assigned = is.assigned;
          }

      module _ (part : ℕ × Span V) (first : IsFirstPart mid from end part) (w : V) (next : F) (step : Step now part.1.value w next) where
        next_split : parts_between start end old ≡ (is.called ++ part ∷ []) ++ parts_between part.1.end end old
        next_split =
            is.split
            ∙ ap (λ l. is.called ++ l)
            (parts-same from end old mid (is.runs mid_runs) mid_runs (λ n le. sym (is.same n le)) ∙ first.first
            ∙ ap (λ l. part ∷ l) (parts-same part.1.end end mid old mid_runs (is.runs mid_runs) (λ n le. is.same n (omega (arith, le, first.low, first.some)))))
            ∙ sym (append_assoc is.called (part ∷ []) (parts_between part.1.end end old))

        next_returns : Returns Step action (is.called ++ part ∷ []) (is.given ++ with_value part w ∷ []) next
        next_returns = returns-last action now next is.called is.given part w is.returns step

        -- the numbers of the part were given what the action returned
        pub updated-more : (new : List (ℕ × Span V)) → IsAssigned mid part.0 part.1.end w new → IsUpdatedBelow part.1.end next new
        updated-more new assigned = record {
          low = omega (arith, is.low, first.low, first.some);
          runs = λ _. is.runs mid_runs;
          called = is.called ++ part ∷ [];
          split = next_split;
          given = is.given ++ with_value part w ∷ [];
          returns = next_returns;
          assigned = λ n.
              assigned n ∙ ap (λ v. cond (is_between part.0 part.1.end n) (Some w) v) (is.assigned n)
              ∙ sym (assigned-last is.given (with_value part w) (value_at old) n);
          same = λ n le.
              assigned n ∙ sym (passed (is_between part.0 part.1.end n) (Some w) (value_at mid n) (between-above part.0 part.1.end n le))
              ∙ is.same n (omega (arith, le, first.low, first.some));
        }

        -- their insertion was refused
        pub updated-until : (new : List (ℕ × Span V)) (refused : RangeRefused (Span V)) → new ≡ mid → refused.key ≡ part.0 → refused.value.end ≡ part.1.end → refused.value.value ≡ w
            → IsUpdatedUntil Step action next (parts_between start end old) old new refused
        updated-until new refused same key last value =
            let Given : List (ℕ × Span V) → Type 0 = λ l. Returns Step action (is.called ++ part ∷ []) (is.given ++ l) next in
            let back : with_value part w ∷ [] ≡ (refused.key, refused.value) ∷ [] = λ i. (sym key i, record { end = sym last i; value = sym value i }) ∷ [] in
            record {
              called = is.called ++ part ∷ [];
              rest = parts_between part.1.end end old;
              split = next_split;
              given = is.given;
              returns = subst Given back next_returns;
              assigned = λ n. ap (λ l. value_at l n) same ∙ is.assigned n;
            }
