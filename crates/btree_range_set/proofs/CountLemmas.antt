-- Counts of the numbers of ranges, one range after the other.
use Rattle.btree_range_set.proofs.Common.{◌≡◌, ◌≤◌, ◌<◌, ◌∙◌, ℕ, suc, max, Bool, true, ◌||◌, List, [], ◌∷◌, refl, sym, ap, subst, arith, none-below, within-from, within-high, within-low, AreRunsFrom, has_number, is_within, ranges_meeting}
use Rattle.std.specs.Prelude.{◌+◌, ◌-◌, min}
use Rattle.btree_range_set.specs.CallerLaws.{has-meeting, within-not}
use Rattle.btree_range_set.specs.Counts.{count_between, count_from}
use Rattle.btree_range_set.specs.CountLaws.{count-all, count-none, count-same, count-split}

-- of a range and those after it, the numbers from `from` up to `end`
module _ (r : ℕ × ℕ) (rest : List (ℕ × ℕ)) (from end : ℕ) where
  abbrev both : ℕ → Bool
  both = has_number (r ∷ rest)

  -- a number that is not in the range
  not-here : (n : ℕ) → (is_within r n ≡ true → ⊥) → both n ≡ has_number rest n
  not-here n out = ap (λ (b : Bool). b || has_number rest n) (within-not r n out)

  -- the range has none of them
  pub count-skips : min r.1 end ≤ max r.0 from → count_between (r ∷ rest) from end ≡ count_between rest from end
  count-skips le = count-same both (has_number rest) from (end - from) (λ n low high. not-here n (λ is. let below = within-high r n is in let above = within-low r n is in omega arith))

  -- it has those from `low` up to `high`
  pub count-takes : AreRunsFrom (suc r.1) rest → max r.0 from < min r.1 end → count_between (r ∷ rest) from end ≡ (min r.1 end - max r.0 from) + count_between rest (min r.1 end) end
  count-takes runs lt =
      let low = max r.0 from in
      let high = min r.1 end in
      let parts : end - from ≡ (low - from) + ((high - low) + (end - high)) = omega arith in
      let at_low : from + (low - from) ≡ low = omega arith in
      let at_high : low + (high - low) ≡ high = omega arith in
      let before : count_from both from (low - from) ≡ 0 =
      count-none both from (low - from) (λ n start past. not-here n (λ is. let above = within-low r n is in omega arith) ∙ none-below (suc r.1) rest runs n (omega arith)) in
      let inside : count_from both low (high - low) ≡ high - low =
      count-all both low (high - low) (λ n start past. ap (λ (b : Bool). b || has_number rest n) (within-from r n (omega arith) (omega arith))) in
      let after : count_from both high (end - high) ≡ count_between rest high end =
      count-same both (has_number rest) high (end - high) (λ n start past. not-here n (λ is. let below = within-high r n is in omega arith)) in
      let first = count-split both from (low - from) ((high - low) + (end - high)) in
      let second = count-split both low (high - low) (end - high) in
      ap (count_from both from) parts ∙ first ∙ rw (at_low, before, second, at_high, inside, after) (omega arith)

-- the rest of a list of ranges
pub record AreRunsLeft (xs : List (ℕ × ℕ)) : Type 0 where
  pub low : ℕ
  pub runs : AreRunsFrom low xs

pub left-rest : (xs rest : List (ℕ × ℕ)) (r : ℕ × ℕ) → xs ≡ r ∷ rest → AreRunsLeft xs → AreRunsFrom (suc r.1) rest
left-rest xs rest r is left = let all : AreRunsFrom left.low (r ∷ rest) = subst (AreRunsFrom left.low) is left.runs in all.2

-- so many were counted, and the others are left
module _ (total count from end : ℕ) (xs rest : List (ℕ × ℕ)) (r : ℕ × ℕ) (is : xs ≡ r ∷ rest) (so_far : count + count_between xs from end ≡ total) where
  pub skips-on : min r.1 end ≤ max r.0 from → count + count_between rest from end ≡ total
  skips-on le = ap (λ (n : ℕ). count + n) (sym (count-skips r rest from end le)) ∙ ap (λ (l : List (ℕ × ℕ)). count + count_between l from end) (sym is) ∙ so_far

  module _ (left : AreRunsLeft xs) (lt : max r.0 from < min r.1 end) where
    taken : count_between xs from end ≡ (min r.1 end - max r.0 from) + count_between rest (min r.1 end) end
    taken = ap (λ (l : List (ℕ × ℕ)). count_between l from end) is ∙ count-takes r rest from end (left-rest xs rest r is left) lt

    pub takes-on : (count + (min r.1 end - max r.0 from)) + count_between rest (min r.1 end) end ≡ total
    takes-on = omega (arith, taken, so_far)

    pub takes-most : count + (min r.1 end - max r.0 from) ≤ total
    takes-most = omega (arith, taken, so_far)

-- none is left
pub counts-none : (total count from end : ℕ) (xs : List (ℕ × ℕ)) → xs ≡ [] → count + count_between xs from end ≡ total → count ≡ total
counts-none total count from end xs is so_far =
    let none : count_between [] from end ≡ 0 = count-none (has_number []) from (end - from) (λ n low high. refl) in
    let left : count_between xs from end ≡ 0 = ap (λ (l : List (ℕ × ℕ)). count_between l from end) is ∙ none in
    omega (arith, left, so_far)

-- of the ranges that meet them, and so of all
pub counts-meeting : (xs : List (ℕ × ℕ)) (start end : ℕ) → count_between (ranges_meeting start end xs) start end ≡ count_between xs start end
counts-meeting xs start end = count-same (has_number (ranges_meeting start end xs)) (has_number xs) start (end - start)
    (λ n low high. has-meeting start end n xs (within-from (start, end) n low (omega arith)))
