-- Runs of free numbers, and the gaps that are left in a search for one. `has` tells which numbers are taken.
use Rattle.std.proofs.Common.{◌≡◌, ◌≤◌, ◌<◌, ◌+◌, ◌-◌, ◌∙◌, ℕ, suc, Bool, true, false, not, ◌⊎◌, inl, inr, List, [], ◌∷◌, sym, ap, arith}
use Rattle.std.proofs.lemmas.Bool.{and_from, and_parts, cases_lt, not-true, or_cases, or_left, or_right}
use Rattle.btree_range_set.specs.CallerLaws.{within-from, within-high, within-low}
use Rattle.btree_range_set.specs.FirstFit.{FitsNowhere, IsFirstFit, IsFreeRun}
use Rattle.btree_range_set.specs.Gaps.{AreGapsOf}
use Rattle.btree_range_set.specs.Ranges.{AreRunsFrom, has_number, is_within}

-- the numbers in gaps that ascend from `low` are not less
gaps-low : (gaps : List (ℕ × ℕ)) (low n : ℕ) → AreRunsFrom low gaps → has_number gaps n ≡ true → low ≤ n
gaps-low [] low n apart in_gap = absurd (cc)
gaps-low (gap ∷ gaps) low n apart in_gap = which (λ later. gaps-low gaps (suc gap.1) n apart.2 later) (or_cases (is_within gap n) (has_number gaps n) in_gap) where
  which : ((has_number gaps n ≡ true) → suc gap.1 ≤ n) → (is_within gap n ≡ true) ⊎ (has_number gaps n ≡ true) → low ≤ n
  which low-of (inl here) = omega (arith, apart.0, within-low gap n here)
  which low-of (inr later) = omega (arith, apart.0, apart.1, low-of later)

module _ (has : ℕ → Bool) (start end size : ℕ) where
  -- the numbers in the gaps are free, and each free run is in them
  pub record AreLeft (gaps : List (ℕ × ℕ)) : Type 0 where
    pub low : ℕ
    pub apart : AreRunsFrom low gaps
    pub free : (n : ℕ) → has_number gaps n ≡ true → (start ≤ n) × (n < end) × (has n ≡ false)
    pub runs : (at : ℕ) → IsFreeRun has start end size at → (n : ℕ) → is_within (at, at + size) n ≡ true → has_number gaps n ≡ true

  -- at first, all gaps are left
  pub all-left : (gaps : List (ℕ × ℕ)) → AreGapsOf has start end gaps → AreLeft gaps
  all-left gaps are = record { low = 0; apart = are.runs; free = free; runs = runs } where
    free : (n : ℕ) → has_number gaps n ≡ true → (start ≤ n) × (n < end) × (has n ≡ false)
    free n in_gap =
        let both = and_parts (is_within (start, end) n) (not (has n)) (sym (are.missing n) ∙ in_gap) in
        (within-low (start, end) n both.0, within-high (start, end) n both.0, not-true (has n) both.1)

    runs : (at : ℕ) → IsFreeRun has start end size at → (n : ℕ) → is_within (at, at + size) n ≡ true → has_number gaps n ≡ true
    runs at run n inside =
        let low = within-low (at, at + size) n inside in
        let high = within-high (at, at + size) n inside in
        are.missing n ∙ and_from (is_within (start, end) n) (not (has n)) (within-from (start, end) n (omega (arith, low, run.from)) (omega (arith, high, run.to))) (ap not (run.free n inside))

  -- if no gap is left, it fits nowhere
  pub none-left : 0 < size → AreLeft [] → FitsNowhere has start end size
  none-left some left at run = absurd (cc (left.runs at run at (within-from (at, at + size) at (omega arith) (omega (arith, some)))))

  module _ (gap : ℕ × ℕ) (rest : List (ℕ × ℕ)) (left : AreLeft (gap ∷ rest)) where
    -- a gap that is long enough has the first fit
    pub fit-found : 0 < size → size ≤ gap.1 - gap.0 → IsFirstFit has start end size gap.0
    fit-found some fits = record { run = record { from = (free gap.0 (omega arith) (omega (arith, some, fits))).0; to = to; free = λ n inside. (inside-free n inside).2 }; least = least } where
      free : (n : ℕ) → gap.0 ≤ n → n < gap.1 → (start ≤ n) × (n < end) × (has n ≡ false)
      free n low high = left.free n (or_left (is_within gap n) (has_number rest n) (within-from gap n low high))

      inside-free : (n : ℕ) → is_within (gap.0, gap.0 + size) n ≡ true → (start ≤ n) × (n < end) × (has n ≡ false)
      inside-free n inside =
          let low = within-low (gap.0, gap.0 + size) n inside in
          let high = within-high (gap.0, gap.0 + size) n inside in
          free n low (omega (arith, high, fits))

      to : gap.0 + size ≤ end
      to = let last = (free (gap.0 + (size - 1)) (omega arith) (omega (arith, some, fits))).1 in omega (arith, last, some)

      least : (other : ℕ) → IsFreeRun has start end size other → gap.0 ≤ other
      least other run =
          gaps-low (gap ∷ rest) gap.0 other (omega arith, left.apart.1, left.apart.2)
          (left.runs other run other (within-from (other, other + size) other (omega arith) (omega (arith, some))))

    -- a number behind the gap is in the rest
    in-rest : (n : ℕ) → gap.1 ≤ n → has_number (gap ∷ rest) n ≡ true → has_number rest n ≡ true
    in-rest n behind in_gap = which (or_cases (is_within gap n) (has_number rest n) in_gap) where
      which : (is_within gap n ≡ true) ⊎ (has_number rest n ≡ true) → has_number rest n ≡ true
      which (inl here) = absurd (omega (arith, behind, within-high gap n here))
      which (inr later) = later

    module _ (short : gap.1 - gap.0 < size) where
      -- a free run that began before the gap's end would have that end, which is in no gap
      no-earlier : (at : ℕ) → IsFreeRun has start end size at → at < gap.1 → ⊥
      no-earlier at run before =
          let first = left.runs at run at (within-from (at, at + size) at (omega arith) (omega (arith, short))) in
          let from = gaps-low (gap ∷ rest) gap.0 at (omega arith, left.apart.1, left.apart.2) first in
          let inside = within-from (at, at + size) gap.1 (omega (arith, before)) (omega (arith, from, short, before)) in
          absurd (omega (arith, gaps-low rest (suc gap.1) gap.1 left.apart.2 (in-rest gap.1 (omega arith) (left.runs at run gap.1 inside))))

      rest-runs : (at : ℕ) → IsFreeRun has start end size at → (n : ℕ) → is_within (at, at + size) n ≡ true → has_number rest n ≡ true
      rest-runs at run n inside = which (cases_lt at gap.1) where
        which : (at < gap.1) ⊎ (gap.1 ≤ at) → has_number rest n ≡ true
        which (inl before) = absurd (no-earlier at run before)
        which (inr from) = in-rest n (omega (arith, from, within-low (at, at + size) n inside)) (left.runs at run n inside)

      -- a gap that is too short has none
      pub rest-left : AreLeft rest
      rest-left = record {
        low = suc gap.1;
        apart = left.apart.2;
        free = λ n in_gap. left.free n (or_right (is_within gap n) (has_number rest n) in_gap);
        runs = rest-runs;
      }

-- no numbers fit at once, or nowhere
pub empty-fit : (has : ℕ → Bool) (start end : ℕ) → start ≤ end → IsFirstFit has start end 0 start
empty-fit has start end le = record {
  run = record { from = omega arith; to = omega (arith, le); free = λ n inside. absurd (omega (arith, within-low (start, start + 0) n inside, within-high (start, start + 0) n inside)) };
  least = λ other run. run.from;
}

pub empty-nowhere : (has : ℕ → Bool) (start end : ℕ) → end < start → FitsNowhere has start end 0
empty-nowhere has start end lt at run = omega (arith, run.from, run.to, lt)

-- what `search` takes of them
pub ruleset fits = (empty-fit, empty-nowhere)
