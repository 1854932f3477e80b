-- A range that overlaps the end of some numbers and then begins there, so that it is apart from them.
use Rattle.btree_range_map.proofs.Common.{◌≡◌, ◌≤◌, ◌<◌, ◌∙◌, ℕ, suc, List, length, set, slice_get, Some, refl, sym, ap, subst, arith, length-set, same_Some, slice_get_within, nat_cmp, Address, TreeState, pairs_of, ReplacesAt, IsItemAddress, IsExchanged, Span, IsApart, AreRuns, Overlaps}
use Rattle.btree_range_map.proofs.KeptLemmas.{kept-here}
use Rattle.btree_range_map.proofs.ListLemmas.{get-set, get-set-other, set-back}
use Rattle.btree_range_map.proofs.PlaceLemmas.{less-from}
use Rattle.btree_range_map.proofs.RunLemmas.{next-from, run-at}
use Rattle.btree_range_map.proofs.StepLemmas.{IsSameOutside, clear-part, later-runs, right-part}

module _ {V : Type 0} (s : TreeState ℕ (Span V)) (place : ℕ) (span rest : Span V) (next : Address) (o : Overlaps s place span next rest) (runs : AreRuns (pairs_of s)) where
  within : place < length (pairs_of s)
  within = slice_get_within (pairs_of s) place (o.first, rest) o.listed

  -- a key from its start on, and before its end, may stand in place of its start
  replaces-start : (t : TreeState ℕ (Span V)) (k : ℕ) (x : ℕ × Span V) → AreRuns (pairs_of t) → IsItemAddress t place next → slice_get (pairs_of t) place ≡ Some x
      → (low : ℕ) → ((q : ℕ) (y : ℕ × Span V) → suc q ≡ place → slice_get (pairs_of t) q ≡ Some y → y.1.end ≤ low) → low ≤ k → k < x.1.end → ReplacesAt nat_cmp k t next
  replaces-start t k x run item listed low before from up = record {
    occupied = item.occupied;
    place = place;
    has = item.has;
    replaces = record {
      within = slice_get_within (pairs_of t) place x listed;
      above = λ q y is at.
          let end = before q y is at in
          let some = run-at 0 (pairs_of t) q y run.ascend at in
          less-from y.0 k (omega (arith, end, some.1, from));
      below = λ y at. let apart = next-from 0 (pairs_of t) place x y run.ascend listed at in less-from k y.0 (omega (arith, apart, up));
    };
  }

  before-first : (q : ℕ) (y : ℕ × Span V) → suc q ≡ place → slice_get (pairs_of s) q ≡ Some y → y.1.end ≤ o.first
  before-first q y is at = next-from 0 (pairs_of s) q y (o.first, rest) runs.ascend at (ap (slice_get (pairs_of s)) is ∙ o.listed)

  pub trim-fits : ReplacesAt nat_cmp span.end s next
  trim-fits = replaces-start s span.end (o.first, rest) runs o.item o.listed o.first before-first (omega (arith, o.starts)) o.past

  module _ (mid : TreeState ℕ (Span V)) (is : IsExchanged s mid next nat_cmp (span.end, rest)) where
    pub trim-pairs : pairs_of mid ≡ set (pairs_of s) place (span.end, rest)
    trim-pairs =
        let same : is.place ≡ place = o.item.has.only is.place is.here.has.at in
        is.pairs ∙ ap (λ p. set (pairs_of s) p (span.end, rest)) same

    later : AreRuns (set (pairs_of s) place (span.end, rest))
    later = later-runs (pairs_of s) place span.end (o.first, rest) (span.end, rest) runs o.listed refl refl refl o.starts o.past

    pub trim-runs : AreRuns (pairs_of mid)
    trim-runs = let P : List (ℕ × Span V) → Type 0 = AreRuns in subst P (sym trim-pairs) later

    pub trim-length : length (pairs_of mid) ≡ length (pairs_of s)
    trim-length = ap length trim-pairs ∙ length-set (pairs_of s) place (span.end, rest)

    pub trim-same : (start : ℕ) → start ≤ o.first → start < span.end → IsSameOutside (pairs_of s) start span.end (pairs_of mid)
    trim-same start low some =
        subst (λ xs. IsSameOutside (pairs_of s) start span.end xs) (sym trim-pairs)
        (clear-part (pairs_of s) (pairs_of s) place start span.end (o.first, rest) (span.end, rest) runs later o.listed refl
        (right-part start span.end (o.first, rest) some low o.starts) (λ n out. refl))

    pub trim-listed : slice_get (pairs_of mid) place ≡ Some (span.end, rest)
    trim-listed = ap (λ xs. slice_get xs place) trim-pairs ∙ get-set (pairs_of s) place (span.end, rest) within

    pub trim-apart : IsApart (pairs_of mid) place span
    trim-apart = record {
      starts = λ x at. let same = ap (λ (z : ℕ × Span V). z.0) (same_Some _ _ (sym trim-listed ∙ at)) in omega (arith, same);
      differ = λ x at touch value. let same = ap (λ (z : ℕ × Span V). z.1.value) (same_Some _ _ (sym trim-listed ∙ at)) in o.differ (same ∙ sym value);
    }

    -- and back, in a tree with the same list
    module _ (late : TreeState ℕ (Span V)) (pairs : pairs_of late ≡ pairs_of mid) (item : IsItemAddress late place next) where
      late-runs : AreRuns (pairs_of late)
      late-runs = let P : List (ℕ × Span V) → Type 0 = AreRuns in subst P (sym pairs) trim-runs

      pub trim-back-fits : ReplacesAt nat_cmp o.first late next
      trim-back-fits =
          replaces-start late o.first (span.end, rest) late-runs item (ap (λ xs. slice_get xs place) pairs ∙ trim-listed) o.first
          (λ q y next at. before-first q y next (sym (get-other q next) ∙ sym (ap (λ xs. slice_get xs q) (pairs ∙ trim-pairs)) ∙ at))
          (omega arith) (omega (arith, o.starts, o.past))
        where
          get-other : (q : ℕ) → suc q ≡ place → slice_get (set (pairs_of s) place (span.end, rest)) q ≡ slice_get (pairs_of s) q
          get-other q next = get-set-other (pairs_of s) place q (span.end, rest) (λ i. omega (arith, i, next))

      pub trim-back : (new : TreeState ℕ (Span V)) → IsExchanged late new next nat_cmp (o.first, rest) → pairs_of new ≡ pairs_of s
      trim-back new back =
          let same : back.place ≡ place = item.has.only back.place back.here.has.at in
          back.pairs
          ∙ ap (λ p. set (pairs_of late) p (o.first, rest)) same
          ∙ ap (λ xs. set xs place (o.first, rest)) (pairs ∙ trim-pairs)
          ∙ set-back (pairs_of s) place (span.end, rest) (o.first, rest) o.listed

    pub trim-item : IsItemAddress mid place next
    trim-item = kept-here s mid next (span.end, rest) is place o.item.has
