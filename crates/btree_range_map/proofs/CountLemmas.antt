-- Counts of the numbers of ranges, one range after the other.
use Rattle.btree_range_map.proofs.Common.{◌≡◌, ◌≤◌, ◌<◌, ◌∙◌, ℕ, max, Bool, true, cond, List, [], ◌∷◌, Some, refl, sym, ap, subst, arith, between-from, between-high, between-low, AscendFrom, is_within, ranges_meeting, value_at, Span}
use Rattle.std.specs.Prelude.{◌+◌, ◌-◌, is_some, min}
use Rattle.btree_range_set.specs.CallerLaws.{within-not}
use Rattle.btree_range_set.specs.CountLaws.{count-all, count-none, count-same, count-split}
use Rattle.btree_range_set.specs.Counts.{count_from}
use Rattle.btree_range_map.specs.CallerLaws.{value-meeting}
use Rattle.btree_range_map.specs.Counts.{count_between}
use Rattle.btree_range_map.specs.Ranges.{has_value}
use Rattle.btree_range_map.proofs.RunLemmas.{none-below}

module _ {V : Type 0} where
  -- a number that is in the range, and one that is not
  here : (r : ℕ × Span V) (rest : List (ℕ × Span V)) (n : ℕ) → is_within r n ≡ true → has_value (r ∷ rest) n ≡ true
  here r rest n is = ap (λ (b : Bool). is_some (cond b (Some r.1.value) (value_at rest n))) is

  not-here : (r : ℕ × Span V) (rest : List (ℕ × Span V)) (n : ℕ) → (is_within r n ≡ true → ⊥) → has_value (r ∷ rest) n ≡ has_value rest n
  not-here r rest n out = ap (λ (b : Bool). is_some (cond b (Some r.1.value) (value_at rest n))) (within-not (r.0, r.1.end) n out)

  -- of a range and those after it, the numbers from `from` up to `end`
  module _ (r : ℕ × Span V) (rest : List (ℕ × Span V)) (from end : ℕ) where
    -- the range has none of them
    pub count-skips : min r.1.end end ≤ max r.0 from → count_between (r ∷ rest) from end ≡ count_between rest from end
    count-skips le =
        count-same (has_value (r ∷ rest)) (has_value rest) from (end - from)
        (λ n low high. not-here r rest n (λ is. let below = between-high r.0 r.1.end n is in let above = between-low r.0 r.1.end n is in omega arith))

    -- it has those from `low` up to `high`
    pub count-takes : AscendFrom r.1.end rest → max r.0 from < min r.1.end end
        → count_between (r ∷ rest) from end ≡ (min r.1.end end - max r.0 from) + count_between rest (min r.1.end end) end
    count-takes runs lt =
        let both = has_value (r ∷ rest) in
        let low = max r.0 from in
        let high = min r.1.end end in
        let parts : end - from ≡ (low - from) + ((high - low) + (end - high)) = omega arith in
        let at_low : from + (low - from) ≡ low = omega arith in
        let at_high : low + (high - low) ≡ high = omega arith in
        let before : count_from both from (low - from) ≡ 0 =
        count-none both from (low - from)
        (λ n start past. not-here r rest n (λ is. let above = between-low r.0 r.1.end n is in omega arith) ∙ ap (λ v. is_some v) (none-below r.1.end rest runs n (omega arith))) in
        let inside : count_from both low (high - low) ≡ high - low =
        count-all both low (high - low) (λ n start past. here r rest n (between-from r.0 r.1.end n (omega arith) (omega arith))) in
        let after : count_from both high (end - high) ≡ count_between rest high end =
        count-same both (has_value rest) high (end - high) (λ n start past. not-here r rest n (λ is. let below = between-high r.0 r.1.end n is in omega arith)) in
        let first = count-split both from (low - from) ((high - low) + (end - high)) in
        let second = count-split both low (high - low) (end - high) in
        ap (count_from both from) parts ∙ first ∙ rw (at_low, before, second, at_high, inside, after) (omega arith)

  -- the rest of a list of ranges
  pub record AreRunsLeft (xs : List (ℕ × Span V)) : Type 0 where
    pub low : ℕ
    pub runs : AscendFrom low xs

  pub left-rest : (xs rest : List (ℕ × Span V)) (r : ℕ × Span V) → xs ≡ r ∷ rest → AreRunsLeft xs → AscendFrom r.1.end rest
  left-rest xs rest r is left = let all : AscendFrom left.low (r ∷ rest) = subst (AscendFrom left.low) is left.runs in all.2

  -- so many were counted, and the others are left
  module _ (total count from end : ℕ) (xs rest : List (ℕ × Span V)) (r : ℕ × Span V) (is : xs ≡ r ∷ rest) (so_far : count + count_between xs from end ≡ total) where
    pub skips-on : min r.1.end end ≤ max r.0 from → count + count_between rest from end ≡ total
    skips-on le =
        ap (λ (n : ℕ). count + n) (sym (count-skips r rest from end le)) ∙ ap (λ (l : List (ℕ × Span V)). count + count_between l from end) (sym is) ∙ so_far

    module _ (left : AreRunsLeft xs) (lt : max r.0 from < min r.1.end end) where
      taken : count_between xs from end ≡ (min r.1.end end - max r.0 from) + count_between rest (min r.1.end end) end
      taken = ap (λ (l : List (ℕ × Span V)). count_between l from end) is ∙ count-takes r rest from end (left-rest xs rest r is left) lt

      pub takes-on : (count + (min r.1.end end - max r.0 from)) + count_between rest (min r.1.end end) end ≡ total
      takes-on = omega (arith, taken, so_far)

      pub takes-most : count + (min r.1.end end - max r.0 from) ≤ total
      takes-most = omega (arith, taken, so_far)

  -- none is left
  pub counts-none : (total count from end : ℕ) (xs : List (ℕ × Span V)) → xs ≡ [] → count + count_between xs from end ≡ total → count ≡ total
  counts-none total count from end xs is so_far =
      let none : count_between {V = V} [] from end ≡ 0 = count-none (has_value {V = V} []) from (end - from) (λ n low high. refl) in
      let left : count_between xs from end ≡ 0 = ap (λ (l : List (ℕ × Span V)). count_between l from end) is ∙ none in
      omega (arith, left, so_far)

  -- of the ranges that meet them, and so of all
  pub counts-meeting : (xs : List (ℕ × Span V)) (start end : ℕ) → count_between (ranges_meeting start end xs) start end ≡ count_between xs start end
  counts-meeting xs start end = count-same (has_value (ranges_meeting start end xs)) (has_value xs) start (end - start)
      (λ n low high. ap is_some (value-meeting start end n xs (between-from start end n low (omega arith))))
