-- Where numbers that are given a value begin: what the range before them asks for.
use Rattle.btree_range_map.proofs.Common.{◌≡◌, ◌≤◌, ◌<◌, ◌∙◌, ℕ, suc, max, slice_get, Some, None, refl, sym, ap, subst, arith, ◌⊎◌, inl, inr, same_Some, Address, Clone, TreeState, item_of, pairs_of, HasPlace, IsItemAddress, IsPrevious, Span, AreRuns, CutsOne, JoinsNone, value_at, Assigns, CanAbsorb, between-from}
use Rattle.btree_range_map.specs.State.{FailsToClone, ranges_of}
use Rattle.btree_range_map.specs.Steps.{CanPut, CanPutOver, CanSplit, IsPlaceFor}
use Rattle.btree_range_map.proofs.AssignLemmas.{joins-none}
use Rattle.btree_range_map.proofs.PlaceLemmas.{before-none, before-some, previous-place, read-range}
use Rattle.btree_range_map.proofs.PutLemmas.{assigns-wider}
use Rattle.btree_range_map.proofs.RunLemmas.{next-from, run-at, value-here}

module _ {V : Type 0} (s : TreeState ℕ (Span V)) (at : Address) (start : ℕ) (span : Span V) (here : IsPlaceFor s start at) (runs : AreRuns (pairs_of s)) (some : start < span.end) where
  -- there is none
  pub enter-first : IsPrevious s at None → CanPut s at start span
  enter-first previous =
      let first = before-none s here.place here.within (previous-place s at here.place here.has None previous) in
      record {
        some = some;
        here = here;
        ends = λ q x next there. absurd (omega (arith, next, first));
        differ = λ q x next there touch value. absurd (omega (arith, next, first));
        runs = runs;
      }

  module _ (b : Address) (x : ℕ × Span V) (previous : IsPrevious s at (Some b)) (read : item_of s b ≡ Some x) where
    there : (q : ℕ) × (suc q ≡ here.place) × IsItemAddress s q b × (slice_get (pairs_of s) q ≡ Some x)
    there =
        let r = before-some s here.place b (previous-place s at here.place here.has (Some b) previous) in
        (r.0, r.1, r.2, read-range s r.0 b x r.2 read)

    left : x.0 < start
    left = here.below there.0 x there.1 there.3

    is-before : (q : ℕ) (y : ℕ × Span V) → suc q ≡ here.place → slice_get (pairs_of s) q ≡ Some y → y ≡ x
    is-before q y next listed =
        let place = there.1 in
        let same : q ≡ there.0 = omega (arith, next, place) in
        same_Some _ _ (sym listed ∙ ap (slice_get (pairs_of s)) same ∙ there.3)

    -- it ends before them, or where they begin with another value
    pub enter-apart : x.1.end ≤ start → (x.1.end ≡ start → x.1.value ≡ span.value → ⊥) → CanPut s at start span
    enter-apart low differ = record {
      some = some;
      here = here;
      ends = λ q y next listed. let end = ap (λ (z : ℕ × Span V). z.1.end) (is-before q y next listed) in omega (arith, end, low);
      differ = λ q y next listed touch value.
          let is = is-before q y next listed in
          differ (sym (ap (λ (z : ℕ × Span V). z.1.end) is) ∙ touch) (sym (ap (λ (z : ℕ × Span V). z.1.value) is) ∙ value);
      runs = runs;
    }

    -- it has their value, and ends where they begin or later
    module _ (wide : Span V) (end_is : wide.end ≡ max x.1.end span.end) (value_is : wide.value ≡ span.value) (same : x.1.value ≡ span.value) where
      pub enter-joins : CanAbsorb s b x.0 wide
      enter-joins = record {
        place = there.0;
        range = x;
        item = there.2;
        listed = there.3;
        starts = omega arith;
        within = omega (arith, end_is);
        ends = λ q y next listed. next-from 0 (pairs_of s) q y x runs.ascend listed (ap (slice_get (pairs_of s)) next ∙ there.3);
        differ = λ q y next listed touch value. runs.differ q y x listed (ap (slice_get (pairs_of s)) next ∙ there.3) touch (value ∙ value_is ∙ sym same);
        runs = runs;
      }

      pub enter-joined : start ≤ x.1.end → (new : TreeState ℕ (Span V)) → Assigns s new x.0 wide → Assigns s new start span
      enter-joined high new a =
          let l = left in
          assigns-wider s new start x.0 span wide value_is (omega (arith, l)) (omega (arith, end_is)) had a
        where
          had : (n : ℕ) → x.0 ≤ n → n < wide.end → (n < start) ⊎ (span.end ≤ n) → value_at (pairs_of s) n ≡ Some span.value
          had n from up beside =
              let inside : n < x.1.end = elim beside [ inl below ↦ omega (arith, below, high) | inr above ↦ omega (arith, above, up, end_is) ] in
              value-here 0 (pairs_of s) there.0 x runs.ascend there.3 n (between-from x.0 x.1.end n from inside) ∙ ap (λ v. Some v) same

    -- it has another value, and goes on past them
    module _ (differ : x.1.value ≡ span.value → ⊥) where
      module _ (past : span.end < x.1.end) where
        pub enter-splits : CanSplit s at start span x.1
        enter-splits = record {
          cut = record {
            some = some;
            before = there.0;
            first = x.0;
            valid = here.valid;
            back = here.back;
            has = subst (λ p. HasPlace s at p) (sym there.1) here.has;
            listed = there.3;
            left = left;
            right = past;
            runs = runs;
          };
          differ = λ e. differ (sym e);
        }

        pub enter-cuts : CutsOne (pairs_of s) start span.end
        enter-cuts = record { some = some; index = there.0; range = x; here = there.3; left = left; right = past }

        -- the clone of its value failed
        pub enter-fails : (infallible : V → Type 0) → (infallible x.1.value → ⊥) → FailsToClone infallible (ranges_of s) (ranges_of s) start span.end Clone
        enter-fails infallible fails = record {
          is = refl;
          ranges = refl;
          uncounted = refl;
          cut = record { some = some; index = there.0; range = x; here = there.3; left = left; right = past };
          may_fail = fails;
        }

        pub enter-none : JoinsNone (pairs_of s) start span.end span.value
        enter-none =
            joins-none (pairs_of s) here.place start span.end span.value runs some
            (λ q y next listed.
            let is = is-before q y next listed in
            let first = ap (λ (z : ℕ × Span V). z.0) is in
            let l = left in
            (omega (arith, first, l), λ value. absurd (differ (sym (ap (λ (z : ℕ × Span V). z.1.value) is) ∙ value))))
            (λ y listed.
            let le = next-from 0 (pairs_of s) there.0 x y runs.ascend there.3 (ap (slice_get (pairs_of s)) there.1 ∙ listed) in
            let within = run-at 0 (pairs_of s) here.place y runs.ascend listed in
            (omega (arith, le, within.1, past), λ value. omega (arith, le, past)))
            here.within

      -- it ends inside them, or where they do
      pub enter-over : start < x.1.end → x.1.end ≤ span.end → CanPutOver s at b start span x.1.end
      enter-over cuts within = record {
        here = here;
        place = there.0;
        next = there.1;
        first = x.0;
        last = x.1;
        ends = refl;
        item = there.2;
        listed = there.3;
        cuts = cuts;
        within = within;
        differ = differ;
        runs = runs;
      }
