-- A removal of numbers from the ranges from a place on, step by step.
use Rattle.btree_range_map.proofs.Common.{◌≡◌, ◌≤◌, ◌<◌, ◌∙◌, ℕ, false, List, length, set, slice_get, Option, Some, None, refl, sym, ap, subst, arith, remove, nat_cmp, length-set, length-remove, same_Some, slice_get_within, KeyFits, Address, TreeState, item_of, pairs_of, ReplacesAt, HasPlace, IsNormalized, IsExchanged, Span, EndsBy, StartsFrom, AreRuns, is_between, is_within, value_at}
use Rattle.btree_find.specs.Answers.{IsFoundAt}
use Rattle.btree_range_map.specs.Steps.{CanClear, Clears, TakesRange}
use Rattle.btree_range_map.proofs.LimitLemmas.{grows-not}
use Rattle.btree_range_map.proofs.ListLemmas.{get-removed, get-set, get-set-other}
use Rattle.btree_range_map.proofs.PlaceLemmas.{found-item-at, found-range, gap-below, less-from, normal-place, read-range}
use Rattle.btree_range_map.proofs.RunLemmas.{next-from, run-at, runs-taken}
use Rattle.btree_range_map.proofs.StepLemmas.{IsSameOutside, clear-done, clear-more, clear-part, ends-taken, later-runs, right-part}

module _ {V : Type 0} where
  -- between two steps: outside the numbers from `start` up to `end` the map is the old one, and before the place there are
  -- none of them
  pub record IsClearing (old s : TreeState ℕ (Span V)) (at : Option Address) (start end : ℕ) : Type 0 where
    pub can : CanClear s at start
    pub same : IsSameOutside (pairs_of old) start end (pairs_of s)
    pub few : length (pairs_of s) ≤ length (pairs_of old)
    pub uncounted : s.kept ≡ old.kept

  -- nothing is left to be taken out
  clearing-done : (old s : TreeState ℕ (Span V)) (at : Option Address) (start end : ℕ) (l : IsClearing old s at start end) → StartsFrom (pairs_of s) l.can.place end
      → Clears old s start end
  clearing-done old s at start end l starts = record {
    cleared = clear-done (pairs_of old) (pairs_of s) l.can.place start end l.can.runs l.can.within l.can.ends starts l.same;
    runs = l.can.runs;
    uncounted = l.uncounted;
    bounded = grows-not old s l.few;
  }

  pub clearing-none : (old s : TreeState ℕ (Span V)) (start end : ℕ) → IsClearing old s None start end → Clears old s start end
  clearing-none old s start end l =
      clearing-done old s None start end l
      (λ x at. let past = l.can.item.past refl in let within = slice_get_within (pairs_of s) l.can.place x at in absurd (omega (arith, past, within)))

module _ {V : Type 0} (old s : TreeState ℕ (Span V)) (a : Address) (start end : ℕ) (l : IsClearing old s (Some a) start end) (x : ℕ × Span V) (read : item_of s a ≡ Some x) where
  listed : slice_get (pairs_of s) l.can.place ≡ Some x
  listed = read-range s l.can.place a x l.can.item.here read

  pub clearing-past : end ≤ x.0 → Clears old s start end
  clearing-past low =
      clearing-done old s (Some a) start end l (λ y at. let same : x ≡ y = same_Some _ _ (sym listed ∙ at) in subst (λ (r : ℕ × Span V). end ≤ r.0) same low)

  pub clearing-shorter : (new : TreeState ℕ (Span V)) (next : Option Address) → TakesRange s new l.can.place next → length (pairs_of new) < length (pairs_of s)
  clearing-shorter new next takes =
      let within = slice_get_within (pairs_of s) l.can.place x listed in
      let fewer = length-remove (pairs_of s) l.can.place within in
      let count = ap length takes.pairs in
      omega (arith, within, fewer, count)

  pub clearing-more : (new : TreeState ℕ (Span V)) (next : Option Address) → x.1.end ≤ end → TakesRange s new l.can.place next → IsClearing old new next start end
  clearing-more new next high takes =
      let can = l.can in
      let low = can.starts x listed in
      let some = run-at 0 (pairs_of s) can.place x can.runs.ascend listed in
      let within = slice_get_within (pairs_of s) can.place x listed in
      let fewer = clearing-shorter new next takes in
      let P : List (ℕ × Span V) → Type 0 = AreRuns in
      record {
        can = record {
          place = can.place;
          within = subst (λ xs. can.place ≤ length xs) (sym takes.pairs) (removed-within (pairs_of s) can.place within);
          item = takes.next_one;
          ends = subst (λ xs. EndsBy xs can.place start) (sym takes.pairs) (ends-taken (pairs_of s) can.place start can.ends);
          starts = λ y at.
              let there = sym (get-removed (pairs_of s) can.place) ∙ sym (ap (λ xs. slice_get xs can.place) takes.pairs) ∙ at in
              let apart = next-from 0 (pairs_of s) can.place x y can.runs.ascend listed there in
              omega (arith, apart, low, some.1);
          runs = subst P (sym takes.pairs) (runs-taken (pairs_of s) can.place x can.runs listed);
        };
        same = subst (λ xs. IsSameOutside (pairs_of old) start end xs) (sym takes.pairs) (clear-more (pairs_of old) (pairs_of s) can.place start end x can.runs listed low high l.same);
        few = omega (arith, fewer, l.few);
        uncounted = takes.uncounted ∙ l.uncounted;
      }
    where
      removed-within : (xs : List (ℕ × Span V)) (p : ℕ) → p < length xs → p ≤ length (remove xs p)
      removed-within xs p lt = let n = length-remove xs p lt in omega (arith, n, lt)

  module _ (cuts : x.0 < end) (some : start < end) (right : end < x.1.end) where
    pub clearing-fits : ReplacesAt nat_cmp end s a
    clearing-fits =
        let can = l.can in
        record {
          occupied = can.item.here.occupied;
          place = can.place;
          has = can.item.here.has;
          replaces = record {
            within = slice_get_within (pairs_of s) can.place x listed;
            above = λ q y next at.
                let apart = next-from 0 (pairs_of s) q y x can.runs.ascend at (ap (slice_get (pairs_of s)) next ∙ listed) in
                let here = run-at 0 (pairs_of s) q y can.runs.ascend at in
                less-from y.0 end (omega (arith, apart, here.1, cuts));
            below = λ y at.
                let apart = next-from 0 (pairs_of s) can.place x y can.runs.ascend listed at in
                less-from end y.0 (omega (arith, apart, right));
          };
        }

    pub clearing-last : (new : TreeState ℕ (Span V)) (y : ℕ × Span V) → y ≡ (end, x.1) → IsExchanged s new a nat_cmp y → Clears old new start end
    clearing-last new y y_is is =
        let can = l.can in
        let same_place : is.place ≡ can.place = can.item.here.has.only is.place is.here.has.at in
        let pairs = is.pairs ∙ ap (λ p. set (pairs_of s) p y) same_place in
        let within = slice_get_within (pairs_of s) can.place x listed in
        let length_same = length-set (pairs_of s) can.place y in
        let count = ap length pairs ∙ length_same in
        let low = can.starts x listed in
        let first : y.0 ≡ end = ap (λ (z : ℕ × Span V). z.0) y_is in
        let last : y.1.end ≡ x.1.end = ap (λ (z : ℕ × Span V). z.1.end) y_is in
        let value : y.1.value ≡ x.1.value = ap (λ (z : ℕ × Span V). z.1.value) y_is in
        let P : List (ℕ × Span V) → Type 0 = AreRuns in
        let ys = set (pairs_of s) can.place y in
        let runs : AreRuns ys = later-runs (pairs_of s) can.place end x y can.runs listed first last value cuts right in
        let part : (n : ℕ) → is_between start end n ≡ false → is_within y n ≡ is_within x n =
        (λ n out. ap (λ (z : ℕ × Span V). is_within z n) y_is ∙ right-part start end x some low cuts n out) in
        let same = clear-part (pairs_of old) (pairs_of s) can.place start end x y can.runs runs listed (sym value) part l.same in
        let cleared =
        clear-done (pairs_of old) ys can.place start end runs (omega (arith, within, length_same))
        (λ q z next at. can.ends q z next (sym (get-set-other (pairs_of s) can.place q y (λ i. omega (arith, i, next))) ∙ at))
        (λ z at. let r : z ≡ y = same_Some _ _ (sym at ∙ get-set (pairs_of s) can.place y within) in let e = ap (λ (z : ℕ × Span V). z.0) r in omega (arith, e, first))
        same in
        record {
          cleared = λ n. ap (λ xs. value_at xs n) pairs ∙ cleared n;
          runs = subst P (sym pairs) runs;
          uncounted = is.uncounted ∙ l.uncounted;
          bounded = grows-not old new (omega (arith, count, l.few));
        }

module _ {V : Type 0} where
  -- ---- where it begins
  -- at a range that starts where the numbers do
  pub clear-found : (s : TreeState ℕ (Span V)) (start : ℕ) (a : Address) → IsFoundAt nat_cmp start s a → AreRuns (pairs_of s) → CanClear s (Some a) start
  clear-found s start a f runs =
      let r = found-range s start a f in
      let within = slice_get_within (pairs_of s) f.replaces.place r.0 r.1 in
      record {
        place = f.replaces.place;
        within = omega (arith, within);
        item = found-item-at s start a f;
        ends = λ q x next at. let apart = next-from 0 (pairs_of s) q x r.0 runs.ascend at (ap (slice_get (pairs_of s)) next ∙ r.1) in omega (arith, apart, r.3);
        starts = λ x at. let same : r.0 ≡ x = same_Some _ _ (sym r.1 ∙ at) in let e = ap (λ (z : ℕ × Span V). z.0) same in omega (arith, e, r.3);
        runs = runs;
      }

  -- at a gap, where the range before it ends there or before
  pub clear-gap : (s : TreeState ℕ (Span V)) (gap : Address) (start place : ℕ) (has : HasPlace s gap place) → KeyFits nat_cmp start place (pairs_of s) → (at : Option Address) → IsNormalized s gap at
      → EndsBy (pairs_of s) place start → AreRuns (pairs_of s) → CanClear s at start
  clear-gap s gap start place has fits at normal ends runs = record {
    place = place;
    within = fits.within;
    item = normal-place s gap place has at normal;
    ends = ends;
    starts = λ x there. let less = gap-below s gap start place has fits x there in omega (arith, less);
    runs = runs;
  }
