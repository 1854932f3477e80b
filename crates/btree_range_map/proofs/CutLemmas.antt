-- A range that is cut in two, and one that is shortened at its end.
use Rattle.btree_range_map.proofs.Common.{◌≡◌, ◌≤◌, ◌<◌, ◌∙◌, ℕ, suc, Bool, true, false, cond, List, length, set, slice_get, Option, Some, None, refl, sym, ap, subst, arith, insert, length-set, same_Some, slice_get_within, nat_cmp, KeyFits, Address, Clone, TreeState, item_of, pairs_of, FitsAt, HasPlace, IsItemAddress, IsItemAt, IsNormalized, IsPrevious, value-list, IsValueExchanged, InsertsAt, SetsEnd, Span, EndsBy, StartsFrom, AreRuns, is_between, is_within, value_at}
use Rattle.btree_laws.specs.TreeState.{IsPlaceIn}
use Rattle.btree_find.specs.Answers.{IsGapAt}
use Rattle.btree_range_map.specs.State.{FailsToClone, ranges_of}
use Rattle.btree_range_map.specs.Steps.{CanClear, CanCut, Clears}
use Rattle.btree_range_map.proofs.KeptLemmas.{sets-end}
use Rattle.btree_range_map.proofs.LimitLemmas.{put-limit}
use Rattle.btree_range_map.proofs.ListLemmas.{get-inserted-before, get-set, get-set-other, set-insert}
use Rattle.btree_range_map.proofs.PlaceLemmas.{before-read, gap-below, less-from, previous-place}
use Rattle.btree_range_map.proofs.RunLemmas.{next-from}
use Rattle.btree_range_map.proofs.StepLemmas.{IsSameOutside, clear-part, cut-cleared, cut-runs, left-part, shorter-runs}

module _ {V : Type 0} where
  -- ---- a range that is cut in two
  -- the gap of the start of the numbers is after the range
  pub cut-can : (s : TreeState ℕ (Span V)) (gap b : Address) (start end : ℕ) (x : ℕ × Span V) → IsGapAt nat_cmp start s gap → IsPrevious s gap (Some b) → item_of s b ≡ Some x
      → start < end → end < x.1.end → AreRuns (pairs_of s) → CanCut s gap start end x.1.end x.1.value
  cut-can s gap b start end x g previous read some right runs =
      let there = before-read s gap start g.fits.place g.fits.has g.fits.fits b x previous read in
      record {
        some = some;
        before = there.0;
        first = x.0;
        valid = g.valid;
        back = g.back;
        has = subst (λ p. HasPlace s gap p) (sym there.1) g.fits.has;
        listed = there.3;
        left = there.4;
        right = right;
        runs = runs;
      }

  -- the clone of its value failed
  pub cut-fails : (infallible : V → Type 0) (s : TreeState ℕ (Span V)) (gap b : Address) (start end : ℕ) (x : ℕ × Span V) → IsGapAt nat_cmp start s gap → IsPrevious s gap (Some b) → item_of s b ≡ Some x
      → start < end → end < x.1.end → (infallible x.1.value → ⊥) → FailsToClone infallible (ranges_of s) (ranges_of s) start end Clone
  cut-fails infallible s gap b start end x g previous read some right fails =
      let there = before-read s gap start g.fits.place g.fits.has g.fits.fits b x previous read in
      record {
        is = refl;
        ranges = refl;
        uncounted = refl;
        cut = record { some = some; index = there.0; range = x; here = there.3; left = there.4; right = right };
        may_fail = fails;
      }

module _ {V : Type 0} (s : TreeState ℕ (Span V)) (gap : Address) (start end last : ℕ) (value : V) (can : CanCut s gap start end last value) where
  abbrev whole : ℕ × Span V
  whole = (can.first, record { end = last; value = value })

  within : can.before < length (pairs_of s)
  within = slice_get_within (pairs_of s) can.before whole can.listed

  pub cut-fits : FitsAt nat_cmp end s gap
  cut-fits = record {
    place = suc can.before;
    has = can.has;
    fits = record {
      within = omega (arith, within);
      above = λ q x next at.
          let same : q ≡ can.before = omega (arith, next) in
          let r : x ≡ whole = same_Some _ _ (sym at ∙ ap (slice_get (pairs_of s)) same ∙ can.listed) in
          let e : x.0 ≡ can.first = ap (λ (z : ℕ × Span V). z.0) r in
          less-from x.0 end (omega (arith, e, can.left, can.some));
      below = λ x at.
          let apart : last ≤ x.0 = next-from 0 (pairs_of s) can.before whole x can.runs.ascend can.listed at in
          less-from end x.0 (omega (arith, apart, can.right));
    };
  }

  pub cut-done : (mid new : TreeState ℕ (Span V)) (right left : Address) (r : ℕ × Span V) → r ≡ (end, record { end = last; value = value })
      → InsertsAt s mid gap nat_cmp right r → IsPrevious mid right (Some left) → SetsEnd mid new left start → Clears s new start end
  cut-done mid new right left r r_is puts previous sets =
      let place_is : puts.place ≡ suc can.before = can.has.only puts.place puts.has.at in
      let l : ℕ × Span V = (can.first, record { end = start; value = value }) in
      let l_is : l ≡ (can.first, record { end = start; value = value }) = refl in
      let pairs : pairs_of mid ≡ insert (pairs_of s) (suc can.before) r = puts.pairs ∙ ap (λ p. insert (pairs_of s) p r) place_is in
      let there : HasPlace mid right (suc can.before) = subst (λ p. HasPlace mid right p) place_is puts.there in
      let item : IsItemAddress mid can.before left = (previous-place mid right (suc can.before) there (Some left) previous).here in
      let listed : slice_get (pairs_of mid) can.before ≡ Some whole =
      ap (λ xs. slice_get xs can.before) pairs ∙ get-inserted-before (pairs_of s) can.before r within ∙ can.listed in
      let e = sets-end mid new left start whole (item.item ∙ listed) sets in
      let final : pairs_of new ≡ insert (set (pairs_of s) can.before l) (suc can.before) r =
      value-list nat_cmp mid new left can.before whole.1 l.1 whole item listed e
      ∙ ap (λ xs. set xs can.before l) pairs
      ∙ set-insert (pairs_of s) can.before r l within in
      let P : List (ℕ × Span V) → Type 0 = AreRuns in
      record {
        cleared = λ n. ap (λ xs. value_at xs n) final ∙ cut-cleared (pairs_of s) can.before start end whole l r can.runs can.listed l_is r_is can.left can.some can.right n;
        runs = subst P (sym final) (cut-runs (pairs_of s) can.before start end whole l r can.runs can.listed l_is r_is can.left can.some can.right);
        uncounted = e.exchanged.uncounted ∙ puts.inserted.uncounted;
        bounded = λ more.
            let count = ap length e.exchanged.pairs ∙ length-set (pairs_of mid) e.exchanged.place (e.key, l.1) in
            let limit = put-limit s mid gap right (suc can.before) r can.has (omega (arith, within)) puts in
            omega (arith, count, limit);
      }

-- ---- a range that is shortened at its end
module _ {V : Type 0} (s new : TreeState ℕ (Span V)) (gap a : Address) (start end place : ℕ) (x : ℕ × Span V) (has : HasPlace s gap place)
    (fits : KeyFits nat_cmp start place (pairs_of s)) (runs : AreRuns (pairs_of s)) (previous : IsPrevious s gap (Some a)) (read : item_of s a ≡ Some x) (some : start < end) (cuts : start < x.1.end)
    (sets : SetsEnd s new a start) where
  abbrev is : Span V
  is = record { end = start; value = x.1.value }

  abbrev e : IsValueExchanged s new a nat_cmp x.1 is
  e = sets-end s new a start x read sets

  before : (q : ℕ) × (suc q ≡ place) × IsItemAddress s q a × (slice_get (pairs_of s) q ≡ Some x) × (x.0 < start)
  before = before-read s gap start place has fits a x previous read

  shorter : ℕ × Span V
  shorter = (x.0, is)

  pairs : pairs_of new ≡ set (pairs_of s) before.0 (x.0, is)
  pairs = value-list nat_cmp s new a before.0 x.1 is x before.2 before.3 e

  last : is.end ≡ start
  last = refl

  value : is.value ≡ x.1.value
  value = refl

  short-runs : AreRuns (set (pairs_of s) before.0 (x.0, is))
  short-runs = shorter-runs (pairs_of s) before.0 start x (x.0, is) runs before.3 refl last value before.4 cuts

  pub shorten-can : (after : Option Address) → IsNormalized new gap after → CanClear new after start
  shorten-can after normal =
      let q : ℕ = before.0 in
      let next = before.1 in
      let listed = before.3 in
      let at : IsPlaceIn new gap place = e.exchanged.keeps.places gap place has.at in
      let place_is : normal.place ≡ place = sym (normal.has.only place at) in
      let within = slice_get_within (pairs_of s) q x listed in
      let same = length-set (pairs_of s) q (x.0, is) in
      let P : List (ℕ × Span V) → Type 0 = AreRuns in
      let Q : List (ℕ × Span V) → Type 0 = λ xs. EndsBy xs place start in
      let R : List (ℕ × Span V) → Type 0 = λ xs. StartsFrom xs place start in
      record {
        place = place;
        within = subst (λ xs. place ≤ length xs) (sym pairs) (omega (arith, next, within, same));
        item = subst (λ p. IsItemAt new p after) place_is normal.item;
        ends = subst Q (sym pairs)
            (λ r y there at.
            let same_place : r ≡ q = omega (arith, there, next) in
            let y_is : y ≡ (x.0, is) = same_Some _ _ (sym at ∙ ap (slice_get (set (pairs_of s) q (x.0, is))) same_place ∙ get-set (pairs_of s) q (x.0, is) within) in
            let end_is = ap (λ (z : ℕ × Span V). z.1.end) y_is in
            omega (arith, end_is, last));
        starts = subst R (sym pairs)
            (λ y at.
            let old = sym (get-set-other (pairs_of s) q place (x.0, is) (λ i. omega (arith, i, next))) ∙ at in
            let less = gap-below s gap start place has fits y old in
            omega (arith, less));
        runs = subst P (sym pairs) short-runs;
      }

  pub shorten-then : x.1.end ≤ end → (final : TreeState ℕ (Span V)) → Clears new final start end → Clears s final start end
  shorten-then high final c =
      let part : (n : ℕ) → is_between start end n ≡ false → is_within (x.0, is) n ≡ is_within x n =
      (λ n out. left-part start end x some cuts high n out) in
      let outside : IsSameOutside (pairs_of s) start end (pairs_of new) =
      subst (λ xs. IsSameOutside (pairs_of s) start end xs) (sym pairs)
      (clear-part (pairs_of s) (pairs_of s) before.0 start end x (x.0, is) runs short-runs before.3 (sym value) part (λ n out. refl)) in
      let count : length (pairs_of new) ≡ length (pairs_of s) = ap length pairs ∙ length-set (pairs_of s) before.0 (x.0, is) in
      let limit = ap (λ k. k.limit) e.exchanged.uncounted in
      record {
        cleared = λ n. c.cleared n ∙ and-outside (is_between start end n) (value_at (pairs_of new) n) (value_at (pairs_of s) n) (outside n);
        runs = c.runs;
        uncounted = c.uncounted ∙ e.exchanged.uncounted;
        bounded = λ more. let below = c.bounded (omega (arith, count, more)) in omega (arith, below, count, limit);
      }
    where
      and-outside : (w : Bool) (b c : Option V) → (w ≡ false → b ≡ c) → cond w None b ≡ cond w None c
      and-outside true b c same = refl
      and-outside false b c same = same refl
