-- Ranges that one range takes in, step by step.
use Rattle.btree_range_map.proofs.Common.{◌≡◌, ◌≤◌, ◌<◌, ◌∙◌, ℕ, suc, cond, List, length, set, slice_get, Some, None, refl, sym, ap, subst, arith, length-set, length-remove, slice_get_within, nat_cmp, Address, TreeState, pairs_of, ReplacesAt, IsExchanged, Span, EndsBy, IsApart, AreRuns, is_between, value_at, Assigns, CanAbsorb, Overlaps}
use Rattle.btree_range_map.specs.Steps.{Absorbs, TakesRange}
use Rattle.btree_range_map.proofs.AssignLemmas.{absorb-last, absorb-more, absorb-runs, over}
use Rattle.btree_range_map.proofs.KeptLemmas.{kept-item}
use Rattle.btree_range_map.proofs.LimitLemmas.{grows-not}
use Rattle.btree_range_map.proofs.ListLemmas.{get-removed, get-removed-below, get-set-other}
use Rattle.btree_range_map.proofs.PlaceLemmas.{less-from}
use Rattle.btree_range_map.proofs.RunLemmas.{next-from, run-at, runs-taken}
use Rattle.btree_range_map.proofs.StepLemmas.{ends-taken}
use Rattle.btree_range_map.proofs.TrimLemmas.{trim-apart, trim-length, trim-pairs, trim-runs, trim-same}

module _ {V : Type 0} where
  -- these numbers, up to the end that was reached
  abbrev pub span_to : (end : ℕ) → Span V → Span V
  span_to end span = record { end = end; value = span.value }

  -- between two steps: with the numbers from `start` up to `end` the values are those that are wanted
  pub record IsAbsorbing (old s : TreeState ℕ (Span V)) (a : Address) (start : ℕ) (span : Span V) (end : ℕ) : Type 0 where
    pub can : CanAbsorb s a start (span_to end span)
    pub same : (n : ℕ) → cond (is_between start end n) (Some span.value) (value_at (pairs_of s) n) ≡ cond (is_between start span.end n) (Some span.value) (value_at (pairs_of old) n)
    pub few : length (pairs_of s) ≤ length (pairs_of old)
    pub uncounted : s.kept ≡ old.kept

  pub absorbing-first : (old : TreeState ℕ (Span V)) (a : Address) (start : ℕ) (span : Span V) → CanAbsorb old a start span → IsAbsorbing old old a start span span.end
  absorbing-first old a start span can = record { can = can; same = λ n. refl; few = omega arith; uncounted = refl }

module _ {V : Type 0} (old s : TreeState ℕ (Span V)) (a : Address) (start : ℕ) (span : Span V) (end : ℕ) (l : IsAbsorbing old s a start span end) where
  -- if the next range is taken in, there is one
  pub absorbing-some : (at : Address) (last : ℕ) → Absorbs s (suc l.can.place) (span_to end span) at last → (new : TreeState ℕ (Span V)) → TakesRange s new l.can.place None → ⊥
  absorbing-some at last o new takes =
      let within = slice_get_within (pairs_of s) (suc l.can.place) o.range o.listed in
      let fewer = length-remove (pairs_of s) l.can.place (omega (arith, within)) in
      let count = ap length takes.pairs in
      let past = takes.next_one.past refl in
      absurd (omega (arith, within, fewer, count, past))

  -- the next range is taken in, in place of this one
  module _ (at next : Address) (last : ℕ) (o : Absorbs s (suc l.can.place) (span_to end span) at last) (new : TreeState ℕ (Span V)) (takes : TakesRange s new l.can.place (Some next)) where
    pub absorbing-shorter : length (pairs_of new) < length (pairs_of s)
    absorbing-shorter =
        let within = slice_get_within (pairs_of s) l.can.place l.can.range l.can.listed in
        let fewer = length-remove (pairs_of s) l.can.place within in
        let count = ap length takes.pairs in
        omega (arith, within, fewer, count)

    pub absorbing-more : IsAbsorbing old new next start span last
    absorbing-more =
        let can = l.can in
        let xs = pairs_of s in
        let here = run-at 0 xs can.place can.range can.runs.ascend can.listed in
        let apart = next-from 0 xs can.place can.range o.range can.runs.ascend can.listed o.listed in
        let fewer = absorbing-shorter in
        let P : List (ℕ × Span V) → Type 0 = AreRuns in
        record {
          can = record {
            place = can.place;
            range = o.range;
            item = takes.next_one.here;
            listed = ap (λ ys. slice_get ys can.place) takes.pairs ∙ get-removed xs can.place ∙ o.listed;
            starts = omega (arith, can.starts, here.1, apart);
            within = o.within;
            ends = subst (λ ys. EndsBy ys can.place start) (sym takes.pairs) (ends-taken xs can.place start can.ends);
            differ = λ q x is there. can.differ q x is (sym (get-removed-below xs can.place q (omega (arith, is))) ∙ sym (ap (λ ys. slice_get ys q) takes.pairs) ∙ there);
            runs = subst P (sym takes.pairs) (runs-taken xs can.place can.range can.runs can.listed);
          };
          same = λ n.
              ap (λ ys. cond (is_between start last n) (Some span.value) (value_at ys n)) takes.pairs
              ∙ absorb-more xs can.place start end last span.value can.range o.range can.runs can.listed can.starts can.within o.listed o.wider o.joins n
              ∙ l.same n;
          few = omega (arith, fewer, l.few);
          uncounted = takes.uncounted ∙ l.uncounted;
        }

  -- the next range is apart
  pub absorbing-fits : ReplacesAt nat_cmp start s a
  absorbing-fits =
      let can = l.can in
      let xs = pairs_of s in
      let here = run-at 0 xs can.place can.range can.runs.ascend can.listed in
      record {
        occupied = can.item.occupied;
        place = can.place;
        has = can.item.has;
        replaces = record {
          within = slice_get_within xs can.place can.range can.listed;
          above = λ q x is at.
              let some = run-at 0 xs q x can.runs.ascend at in
              let last = can.ends q x is at in
              less-from x.0 start (omega (arith, some.1, last));
          below = λ x at.
              let apart = next-from 0 xs can.place can.range x can.runs.ascend can.listed at in
              less-from start x.0 (omega (arith, can.starts, here.1, apart));
        };
      }

  pub absorbing-done : IsApart (pairs_of s) (suc l.can.place) (span_to end span) → (new : TreeState ℕ (Span V)) → IsExchanged s new a nat_cmp (start, span_to end span) → Assigns old new start span
  absorbing-done apart new is =
      let can = l.can in
      let xs = pairs_of s in
      let y : ℕ × Span V = (start, span_to end span) in
      let place_is : is.place ≡ can.place = can.item.has.only is.place is.here.has.at in
      let pairs : pairs_of new ≡ set xs can.place y = is.pairs ∙ ap (λ p. set xs p y) place_is in
      let count = ap length pairs ∙ length-set xs can.place y in
      let P : List (ℕ × Span V) → Type 0 = AreRuns in
      record {
        assigned = λ n.
            ap (λ ys. value_at ys n) pairs
            ∙ absorb-last xs can.place start (span_to end span) can.range can.runs can.listed can.starts can.within can.ends can.differ apart n
            ∙ l.same n;
        runs = subst P (sym pairs) (absorb-runs xs can.place start (span_to end span) can.range can.runs can.listed can.starts can.within can.ends can.differ apart);
        uncounted = is.uncounted ∙ l.uncounted;
        bounded = grows-not old new (omega (arith, count, l.few));
      }

  -- the next range goes on past the end, and then begins there
  module _ (next : Address) (rest : Span V) (o : Overlaps s (suc l.can.place) (span_to end span) next rest) (mid : TreeState ℕ (Span V)) (is : IsExchanged s mid next nat_cmp (end, rest)) where
    absorbing-apart : IsApart (pairs_of mid) (suc l.can.place) (span_to end span)
    absorbing-apart = trim-apart s (suc l.can.place) (span_to end span) rest next o l.can.runs mid is

    pub absorbing-trimmed : IsAbsorbing old mid a start span end
    absorbing-trimmed =
        let can = l.can in
        let xs = pairs_of s in
        let here = run-at 0 xs can.place can.range can.runs.ascend can.listed in
        let after = next-from 0 xs can.place can.range (o.first, rest) can.runs.ascend can.listed o.listed in
        let pairs = trim-pairs s (suc can.place) (span_to end span) rest next o can.runs mid is in
        let count = trim-length s (suc can.place) (span_to end span) rest next o can.runs mid is in
        let outside = trim-same s (suc can.place) (span_to end span) rest next o can.runs mid is start (omega (arith, can.starts, here.1, after)) (omega (arith, can.starts, here.1, can.within)) in
        record {
          can = record {
            place = can.place;
            range = can.range;
            item = kept-item s mid next (end, rest) is a (suc can.place) can.place o.item.has can.item (λ e. omega (arith, e));
            listed = other can.place (omega arith) pairs ∙ can.listed;
            starts = can.starts;
            within = can.within;
            ends = λ q x next at. can.ends q x next (sym (other q (omega (arith, next)) pairs) ∙ at);
            differ = λ q x next at. can.differ q x next (sym (other q (omega (arith, next)) pairs) ∙ at);
            runs = trim-runs s (suc can.place) (span_to end span) rest next o can.runs mid is;
          };
          same = λ n. over (is_between start end n) (Some span.value) (value_at (pairs_of mid) n) (value_at xs n) (outside n) ∙ l.same n;
          few = omega (arith, count, l.few);
          uncounted = is.uncounted ∙ l.uncounted;
        }
      where
        other : (q : ℕ) → q < suc l.can.place → pairs_of mid ≡ set (pairs_of s) (suc l.can.place) (end, rest) → slice_get (pairs_of mid) q ≡ slice_get (pairs_of s) q
        other q lt pairs = ap (λ ys. slice_get ys q) pairs ∙ get-set-other (pairs_of s) (suc l.can.place) q (end, rest) (λ i. omega (arith, i, lt))

module _ {V : Type 0} where
  -- and then this one becomes the range of the numbers
  pub absorbing-last : (old s : TreeState ℕ (Span V)) (a : Address) (start : ℕ) (span : Span V) (end : ℕ) (l : IsAbsorbing old s a start span end)
      → (next : Address) (rest : Span V) → Overlaps s (suc l.can.place) (span_to end span) next rest → (mid : TreeState ℕ (Span V)) → IsExchanged s mid next nat_cmp (end, rest)
      → (new : TreeState ℕ (Span V)) → IsExchanged mid new a nat_cmp (start, span_to end span) → Assigns old new start span
  unfolding absorbing-trimmed
  absorbing-last old s a start span end l next rest o mid is new last =
      absorbing-done old mid a start span end (absorbing-trimmed old s a start span end l next rest o mid is) (absorbing-apart old s a start span end l next rest o mid is) new last
