-- An insertion that joins ranges, step by step, and one that joins none.
use Rattle.btree_range_set.proofs.Common.{◌≡◌, ◌≤◌, ◌<◌, ◌∙◌, ℕ, suc, max, ◌||◌, List, length, set, slice_get, Some, sym, ap, subst, arith, length-set, length-remove, same_Some, slice_get_within, insert, remove, nat_cmp, KeyFits, Address, TreeState, item_of, pairs_of, IsFoundAt, HasPlace, IsNormalized, IsPrevious, InsertsAt, EndsBefore, StartsAfter, AreRuns, has_number, is_within}
use Rattle.btree_find.specs.Fits.{ReplacesAt}
use Rattle.btree_ext.specs.Exchange.{IsExchanged}
use Rattle.btree_range_set.specs.Places.{StartsBy}
use Rattle.btree_range_set.specs.Steps.{CanJoin, Joins, TakesRange}
use Rattle.btree_range_set.proofs.LimitLemmas.{grows-not, put-limit}
use Rattle.btree_range_set.proofs.ListLemmas.{get-removed}
use Rattle.btree_range_set.proofs.PlaceLemmas.{before-read, found-range, gap-below, less-from, normal-place, read-range}
use Rattle.btree_range_set.proofs.RunLemmas.{next-apart, run-at, runs-put, runs-taken}
use Rattle.btree_range_set.proofs.StepLemmas.{ends-taken, join-last, join-more, join-runs, join-wider, put-union}

-- between two steps: with the numbers from `start` up to `end` the set is the old one with them
pub record IsJoining (old s : TreeState ℕ ℕ) (a : Address) (start end : ℕ) : Type 0 where
  pub can : CanJoin s a start end
  pub same : (n : ℕ) → (has_number (pairs_of s) n || is_within (start, end) n) ≡ (has_number (pairs_of old) n || is_within (start, end) n)
  pub few : length (pairs_of s) ≤ length (pairs_of old)
  pub uncounted : s.kept ≡ old.kept

-- the list is shorter after a range was removed
pub taken-shorter : (s new : TreeState ℕ ℕ) (place : ℕ) (x : ℕ × ℕ) → slice_get (pairs_of s) place ≡ Some x → pairs_of new ≡ remove (pairs_of s) place
    → length (pairs_of new) < length (pairs_of s)
taken-shorter s new place x at pairs =
    let n = length-remove (pairs_of s) place (slice_get_within (pairs_of s) place x at) in
    subst (λ xs. length xs < length (pairs_of s)) (sym pairs) (omega (arith, n))

module _ (old s new : TreeState ℕ ℕ) (a : Address) (start end : ℕ) (l : IsJoining old s a start end) where
  pub joining-more : (next : Address) → StartsBy (pairs_of s) (suc l.can.place) end → TakesRange s new l.can.place (Some next) → IsJoining old new next start end
  joining-more next by takes =
      let can = l.can in
      let here = run-at 0 (pairs_of s) can.place can.range can.runs can.listed in
      let apart = next-apart 0 (pairs_of s) can.place can.range by.range can.runs can.listed by.listed in
      let fewer = taken-shorter s new can.place can.range can.listed takes.pairs in
      let P : List (ℕ × ℕ) → Type 0 = AreRuns in
      record {
        can = record {
          place = can.place;
          range = by.range;
          item = takes.next_one.here;
          listed = ap (λ xs. slice_get xs can.place) takes.pairs ∙ get-removed (pairs_of s) can.place ∙ by.listed;
          starts = omega (arith, can.starts, here.1, apart);
          meets = by.low;
          ends = subst (λ xs. EndsBefore xs can.place start) (sym takes.pairs) (ends-taken (pairs_of s) can.place start can.ends);
          runs = subst P (sym takes.pairs) (runs-taken 0 (pairs_of s) can.place can.runs);
        };
        same = λ n.
            ap (λ xs. has_number xs n || is_within (start, end) n) takes.pairs
            ∙ join-more (pairs_of s) can.place start end can.range by.range can.runs can.listed can.starts by.listed by.low n
            ∙ l.same n;
        few = omega (arith, fewer, l.few);
        uncounted = takes.uncounted ∙ l.uncounted;
      }

  pub joining-fits : ReplacesAt nat_cmp start s a
  joining-fits =
      let can = l.can in
      let here = run-at 0 (pairs_of s) can.place can.range can.runs can.listed in
      record {
        occupied = can.item.occupied;
        place = can.place;
        has = can.item.has;
        replaces = record {
          within = slice_get_within (pairs_of s) can.place can.range can.listed;
          above = λ q x next at.
              let end = can.ends q x next at in
              let some = run-at 0 (pairs_of s) q x can.runs at in
              less-from x.0 start (omega (arith, end, some.1));
          below = λ x at.
              let apart = next-apart 0 (pairs_of s) can.place can.range x can.runs can.listed at in
              less-from start x.0 (omega (arith, can.starts, here.1, apart));
        };
      }

  pub joining-done : (x : ℕ × ℕ) → item_of s a ≡ Some x → StartsAfter (pairs_of s) (suc l.can.place) end → IsExchanged s new a nat_cmp (start, max end x.1)
      → Joins old new start end
  joining-done x read clear is =
      let can = l.can in
      let same : is.place ≡ can.place = can.item.has.only is.place is.here.has.at in
      let listed = read-range s can.place a x can.item read in
      let range : can.range ≡ x = same_Some _ _ (sym can.listed ∙ listed) in
      let starts = subst (λ (r : ℕ × ℕ). start ≤ r.0) range can.starts in
      let meets = subst (λ (r : ℕ × ℕ). r.0 ≤ end) range can.meets in
      let pairs = is.pairs ∙ ap (λ p. set (pairs_of s) p (start, max end x.1)) same in
      let count = ap length pairs ∙ length-set (pairs_of s) can.place (start, max end x.1) in
      let P : List (ℕ × ℕ) → Type 0 = AreRuns in
      record {
        united = λ n. ap (λ xs. has_number xs n) pairs ∙ join-last (pairs_of s) can.place start end x listed starts meets n ∙ l.same n;
        leaves = record {
          runs = subst P (sym pairs) (join-runs (pairs_of s) can.place start end x can.runs listed starts can.ends clear);
          uncounted = is.uncounted ∙ l.uncounted;
          bounded = grows-not old new (omega (arith, count, l.few));
        };
      }

-- ---- where a join begins
-- at a range that starts where the numbers do
pub join-found : (s : TreeState ℕ ℕ) (start end : ℕ) (a : Address) → IsFoundAt nat_cmp start s a → AreRuns (pairs_of s) → start < end → CanJoin s a start end
join-found s start end a f runs some =
    let r = found-range s start a f in
    record {
      place = f.replaces.place;
      range = r.0;
      item = f.here;
      listed = r.1;
      starts = omega (arith, r.3);
      meets = omega (arith, r.3, some);
      ends = λ q x next at. let apart = next-apart 0 (pairs_of s) q x r.0 runs at (ap (slice_get (pairs_of s)) next ∙ r.1) in omega (arith, apart, r.3);
      runs = runs;
    }

module _ (s : TreeState ℕ ℕ) (gap : Address) (start end place : ℕ) (has : HasPlace s gap place) (fits : KeyFits nat_cmp start place (pairs_of s))
    (runs : AreRuns (pairs_of s)) (some : start < end) where
  -- at the range before the gap of their start, if that ends there or later
  module _ (b : Address) (x : ℕ × ℕ) (previous : IsPrevious s gap (Some b)) (read : item_of s b ≡ Some x) where
    pub join-before : CanJoin s b x.0 end
    join-before =
        let there = before-read s gap start place has fits b x previous read in
        record {
          place = there.0;
          range = x;
          item = there.2;
          listed = there.3;
          starts = omega arith;
          meets = omega (arith, there.4, some);
          ends = λ q y next at. next-apart 0 (pairs_of s) q y x runs at (ap (slice_get (pairs_of s)) next ∙ there.3);
          runs = runs;
        }

    -- what such a join leaves, of the numbers from `start` on
    pub joined-wider : (new : TreeState ℕ ℕ) → start ≤ x.1 → Joins s new x.0 end → Joins s new start end
    joined-wider new high j =
        let there = before-read s gap start place has fits b x previous read in
        record { united = λ n. j.united n ∙ join-wider (pairs_of s) there.0 start end x there.3 (omega (arith, there.4)) high n; leaves = j.leaves }

  -- at the range after the gap, if that starts by their end
  pub join-after : (b : Address) (x : ℕ × ℕ) → IsNormalized s gap (Some b) → item_of s b ≡ Some x → x.0 ≤ end → EndsBefore (pairs_of s) place start → CanJoin s b start end
  join-after b x normal read meets ends =
      let item = (normal-place s gap place has (Some b) normal).here in
      let listed = read-range s place b x item read in
      let below = gap-below s gap start place has fits x listed in
      record { place = place; range = x; item = item; listed = listed; starts = omega (arith, below); meets = meets; ends = ends; runs = runs }

  -- ---- no range is joined
  pub put-done : (new : TreeState ℕ ℕ) (b : Address) → EndsBefore (pairs_of s) place start → StartsAfter (pairs_of s) place end → InsertsAt s new gap nat_cmp b (start, end)
      → Joins s new start end
  put-done new b ends starts puts =
      let same : puts.place ≡ place = has.only puts.place puts.has.at in
      let pairs = puts.pairs ∙ ap (λ p. insert (pairs_of s) p (start, end)) same in
      let P : List (ℕ × ℕ) → Type 0 = AreRuns in
      record {
        united = λ n. ap (λ xs. has_number xs n) pairs ∙ put-union (pairs_of s) place start end fits.within n;
        leaves = record {
          runs = subst P (sym pairs) (runs-put 0 (pairs_of s) place (start, end) runs fits.within some (λ _. omega arith) ends starts);
          uncounted = puts.inserted.uncounted;
          bounded = λ more. put-limit s new gap b place (start, end) has fits.within puts;
        };
      }
