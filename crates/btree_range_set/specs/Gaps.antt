-- The gaps of a set: the runs of numbers that are not in it. `AreGaps` says which they are; `gaps_from` is what an
-- iterator over them has left.
use Rattle.std.specs.Prelude.{◌≡◌, ℕ, Bool, not, ◌&&◌, nat_lt, List, [], ◌∷◌}
use Rattle.std.specs.List.{filter}
use Rattle.btree_range_set.specs.Ranges.{AreRuns, has_number, is_within}

-- the maximal runs, in order, of the numbers from `start` up to `end` that do not pass a test
pub record AreGapsOf (has : ℕ → Bool) (start end : ℕ) (gaps : List (ℕ × ℕ)) : Type 0 where
  pub runs : AreRuns gaps
  pub missing : (n : ℕ) → has_number gaps n ≡ (is_within (start, end) n && not (has n))

-- the gaps of ranges: those of the numbers that are in none of them
abbrev pub AreGaps : (ranges : List (ℕ × ℕ)) → (start end : ℕ) → (gaps : List (ℕ × ℕ)) → Type 0
AreGaps ranges start end gaps = AreGapsOf (has_number ranges) start end gaps

-- from `start` to the first range, from its end to the next one, and so on to `end`
abbrev pub between : (start end : ℕ) → List (ℕ × ℕ) → List (ℕ × ℕ)
between start end [] = (start, end) ∷ []
between start end (range ∷ ranges) = (start, range.0) ∷ between range.1 end ranges

abbrev pub is_some_range : ℕ × ℕ → Bool
is_some_range range = nat_lt range.0 range.1

-- those of them that are not empty
abbrev pub gaps_from : (start end : ℕ) → List (ℕ × ℕ) → List (ℕ × ℕ)
gaps_from start end ranges = filter is_some_range (between start end ranges)
