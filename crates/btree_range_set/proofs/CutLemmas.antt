-- A range that is cut in two, and one that is shortened at its end.
use Rattle.btree_range_set.proofs.Common.{◌≡◌, ◌≤◌, ◌<◌, ◌∙◌, ℕ, suc, Bool, true, false, not, ◌&&◌, List, length, set, slice_get, Option, Some, refl, sym, ap, subst, arith, insert, length-set, same_Some, slice_get_within, nat_cmp, KeyFits, Address, TreeState, item_of, pairs_of, HasPlace, IsNormalized, IsPrevious, InsertsAt, EndsBefore, AreRuns, has_number, is_within}
use Rattle.btree_laws.specs.TreeState.{IsPlaceIn}
use Rattle.btree_find.specs.Answers.{IsGapAt}
use Rattle.btree_find.specs.Fits.{FitsAt}
use Rattle.btree_find.specs.Navigation.{IsItemAddress, IsItemAt}
use Rattle.btree_ext.specs.CallerLaws.{value-list}
use Rattle.btree_ext.specs.Exchange.{IsValueExchanged}
use Rattle.btree_range_set.specs.Places.{StartsFrom}
use Rattle.btree_range_set.specs.Steps.{CanClear, CanCut, Clears}
use Rattle.btree_range_set.proofs.LimitLemmas.{put-limit}
use Rattle.btree_range_set.proofs.ListLemmas.{get-inserted-before, get-set, get-set-other, set-insert}
use Rattle.btree_range_set.proofs.PlaceLemmas.{before-read, gap-below, less-from, previous-place}
use Rattle.btree_range_set.proofs.RunLemmas.{next-apart, runs-set}
use Rattle.btree_range_set.proofs.StepLemmas.{IsSameOutside, clear-part, cut-difference, cut-runs, left-part}

-- ---- a range that is cut in two
-- the gap of the start of the numbers is after the range
pub cut-can : (s : TreeState ℕ ℕ) (gap b : Address) (start end : ℕ) (x : ℕ × ℕ) → IsGapAt nat_cmp start s gap → IsPrevious s gap (Some b) → item_of s b ≡ Some x
    → start < end → end < x.1 → AreRuns (pairs_of s) → CanCut s gap start end x.1
cut-can s gap b start end x g previous read some right runs =
    let there = before-read s gap start g.fits.place g.fits.has g.fits.fits b x previous read in
    record {
      some = some;
      before = there.0;
      first = x.0;
      valid = g.valid;
      back = g.back;
      has = subst (λ p. HasPlace s gap p) (sym there.1) g.fits.has;
      listed = there.3;
      left = there.4;
      right = right;
      runs = runs;
    }

module _ (s : TreeState ℕ ℕ) (gap : Address) (start end last : ℕ) (can : CanCut s gap start end last) where
  within : can.before < length (pairs_of s)
  within = slice_get_within (pairs_of s) can.before (can.first, last) can.listed

  pub cut-fits : FitsAt nat_cmp end s gap
  cut-fits = record {
    place = suc can.before;
    has = can.has;
    fits = record {
      within = omega (arith, within);
      above = λ q x next at.
          let same : q ≡ can.before = omega (arith, next) in
          let r : x ≡ (can.first, last) = same_Some _ _ (sym at ∙ ap (slice_get (pairs_of s)) same ∙ can.listed) in
          let e = ap (λ (z : ℕ × ℕ). z.0) r in
          less-from x.0 end (omega (arith, e, can.left, can.some));
      below = λ x at.
          let apart = next-apart 0 (pairs_of s) can.before (can.first, last) x can.runs can.listed at in
          less-from end x.0 (omega (arith, apart, can.right));
    };
  }

  pub cut-done : (mid new : TreeState ℕ ℕ) (right left : Address) (was : ℕ) → InsertsAt s mid gap nat_cmp right (end, last) → IsPrevious mid right (Some left)
      → IsValueExchanged mid new left nat_cmp was start → Clears s new start end
  cut-done mid new right left was puts previous e =
      let place_is : puts.place ≡ suc can.before = can.has.only puts.place puts.has.at in
      let pairs : pairs_of mid ≡ insert (pairs_of s) (suc can.before) (end, last) = puts.pairs ∙ ap (λ p. insert (pairs_of s) p (end, last)) place_is in
      let there : HasPlace mid right (suc can.before) = subst (λ p. HasPlace mid right p) place_is puts.there in
      let item : IsItemAddress mid can.before left = (previous-place mid right (suc can.before) there (Some left) previous).here in
      let listed : slice_get (pairs_of mid) can.before ≡ Some (can.first, last) =
      ap (λ xs. slice_get xs can.before) pairs ∙ get-inserted-before (pairs_of s) can.before (end, last) within ∙ can.listed in
      let changed : pairs_of new ≡ set (pairs_of mid) can.before (can.first, start) = value-list nat_cmp mid new left can.before was start (can.first, last) item listed e in
      let final : pairs_of new ≡ insert (set (pairs_of s) can.before (can.first, start)) (suc can.before) (end, last) =
      changed
      ∙ ap (λ xs. set xs can.before (can.first, start)) pairs
      ∙ set-insert (pairs_of s) can.before (end, last) (can.first, start) within in
      let P : List (ℕ × ℕ) → Type 0 = AreRuns in
      record {
        without = λ n. ap (λ xs. has_number xs n) final ∙ cut-difference (pairs_of s) can.before start end (can.first, last) can.runs can.listed can.left can.some can.right n;
        leaves = record {
          runs = subst P (sym final) (cut-runs (pairs_of s) can.before start end (can.first, last) can.runs can.listed can.left can.some can.right);
          uncounted = e.exchanged.uncounted ∙ puts.inserted.uncounted;
          bounded = λ more.
              let mid_few = put-limit s mid gap right (suc can.before) (end, last) can.has (omega (arith, within)) puts in
              let same : length (pairs_of new) ≡ length (pairs_of mid) = ap length changed ∙ length-set (pairs_of mid) can.before (can.first, start) in
              omega (arith, mid_few, same);
        };
      }

-- ---- a range that is shortened at its end
module _ (s new : TreeState ℕ ℕ) (gap a : Address) (start end place was : ℕ) (x : ℕ × ℕ) (has : HasPlace s gap place) (fits : KeyFits nat_cmp start place (pairs_of s))
    (runs : AreRuns (pairs_of s)) (previous : IsPrevious s gap (Some a)) (read : item_of s a ≡ Some x) (some : start < end) (cuts : start < x.1)
    (e : IsValueExchanged s new a nat_cmp was start) where
  before : (q : ℕ) × (suc q ≡ place) × IsItemAddress s q a × (slice_get (pairs_of s) q ≡ Some x) × (x.0 < start)
  before = before-read s gap start place has fits a x previous read

  pairs : pairs_of new ≡ set (pairs_of s) before.0 (x.0, start)
  pairs = value-list nat_cmp s new a before.0 was start x before.2 before.3 e

  pub shorten-can : (after : Option Address) → IsNormalized new gap after → CanClear new after start
  shorten-can after normal =
      let q : ℕ = before.0 in
      let next = before.1 in
      let listed = before.3 in
      let at : IsPlaceIn new gap place = e.exchanged.keeps.places gap place has.at in
      let place_is : normal.place ≡ place = sym (normal.has.only place at) in
      let within = slice_get_within (pairs_of s) q x listed in
      let same = length-set (pairs_of s) q (x.0, start) in
      let P : List (ℕ × ℕ) → Type 0 = AreRuns in
      let Q : List (ℕ × ℕ) → Type 0 = λ xs. EndsBefore xs place (suc start) in
      let R : List (ℕ × ℕ) → Type 0 = λ xs. StartsFrom xs place start in
      record {
        place = place;
        within = subst (λ xs. place ≤ length xs) (sym pairs) (omega (arith, next, within, same));
        item = subst (λ p. IsItemAt new p after) place_is normal.item;
        ends = subst Q (sym pairs)
            (λ r y there at.
            let same_place : r ≡ q = omega (arith, there, next) in
            let is : y ≡ (x.0, start) = same_Some _ _ (sym at ∙ ap (slice_get (set (pairs_of s) q (x.0, start))) same_place ∙ get-set (pairs_of s) q (x.0, start) within) in
            let end_is = ap (λ (z : ℕ × ℕ). z.1) is in
            omega (arith, end_is));
        starts = subst R (sym pairs)
            (λ y at.
            let old = sym (get-set-other (pairs_of s) q place (x.0, start) (λ i. omega (arith, i, next))) ∙ at in
            let less = gap-below s gap start place has fits y old in
            omega (arith, less));
        runs = subst P (sym pairs)
            (runs-set 0 (pairs_of s) q (x.0, start) runs within before.4 (λ _. omega arith)
            (λ r y there at. next-apart 0 (pairs_of s) r y x runs at (ap (slice_get (pairs_of s)) there ∙ listed))
            (λ y at. let apart = next-apart 0 (pairs_of s) q x y runs listed at in omega (arith, apart, cuts)));
      }

  pub shorten-then : x.1 ≤ end → (final : TreeState ℕ ℕ) → Clears new final start end → Clears s final start end
  shorten-then high final c =
      let outside : IsSameOutside (pairs_of s) start end (pairs_of new) =
      subst (λ xs. IsSameOutside (pairs_of s) start end xs) (sym pairs)
      (clear-part (pairs_of s) (pairs_of s) before.0 start end x (x.0, start) before.3 (left-part start end x some cuts high) (λ n out. refl)) in
      let count : length (pairs_of new) ≡ length (pairs_of s) = ap length pairs ∙ length-set (pairs_of s) before.0 (x.0, start) in
      let limit = ap (λ k. k.limit) e.exchanged.uncounted in
      record {
        without = λ n. c.without n ∙ and-outside (has_number (pairs_of new) n) (has_number (pairs_of s) n) (is_within (start, end) n) (outside n);
        leaves = record {
          runs = c.leaves.runs;
          uncounted = c.leaves.uncounted ∙ e.exchanged.uncounted;
          bounded = λ more. let below = c.leaves.bounded (omega (arith, count, more)) in omega (arith, below, limit);
        };
      }
    where
      and-outside : (b c w : Bool) → (w ≡ false → b ≡ c) → (b && not w) ≡ (c && not w)
      and-outside b c false same = ap (λ z. z && true) (same refl)
      and-outside true true true same = refl
      and-outside true false true same = refl
      and-outside false true true same = refl
      and-outside false false true same = refl
