-- How many of some numbers have a value.
use Rattle.std.specs.Prelude.{ℕ, ◌-◌, List}
use Rattle.btree_range_set.specs.Counts.{count_from}
use Rattle.btree_range_map.specs.declared.span.Span.{Span}
use Rattle.btree_range_map.specs.Ranges.{has_value}

-- how many of the numbers from `start` up to `end` have a value
abbrev pub count_between : {V : Type 0} → (ranges : List (ℕ × Span V)) → (start end : ℕ) → ℕ
count_between ranges start end = count_from (has_value ranges) start (end - start)
