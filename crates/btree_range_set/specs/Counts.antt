-- How many numbers a set has of some.
use Rattle.std.specs.Prelude.{ℕ, zero, suc, ◌+◌, ◌-◌, Bool, cond, List}
use Rattle.btree_range_set.specs.Ranges.{has_number}

-- how many of so many numbers from `start` on pass a test
abbrev pub count_from : (test : ℕ → Bool) → (start count : ℕ) → ℕ
count_from test start zero = 0
count_from test start (suc count) = cond (test start) 1 0 + count_from test (suc start) count

-- how many of the numbers from `start` up to `end` are in the set
abbrev pub count_between : (ranges : List (ℕ × ℕ)) → (start end : ℕ) → ℕ
count_between ranges start end = count_from (has_number ranges) start (end - start)
