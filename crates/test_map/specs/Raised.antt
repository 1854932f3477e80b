-- A list whose values between two bounds are greater.
use Rattle.std.specs.Prelude.{ℕ, ◌+◌, ◌%◌, ◌^◌, if◌then◌else◌}
use Rattle.std.specs.BTreeMap.Range.{range_contains}
use Rattle.std.specs.Borrow.{Bor}
use Rattle.std.specs.declared.cmp.Ordering.{Ordering}
use Rattle.std.specs.declared.ops.Bound.{Bound}
use Rattle.btree_walk.specs.Bounds.{bound_key}

-- the pair with its value greater by a number, as `wrapping_add` counts
abbrev pub greater_by : {K : Type 0} → (more : ℕ) → K × ℕ → K × ℕ
greater_by more x = (x.0, (x.1 + more) % 2 ^ 64)

-- the same for a pair whose key is between the bounds of a range, and any other as it is
abbrev pub greater_between : {K : Type 0} → (K → K → Ordering) → Bound (Bor K) × Bound (Bor K) → (more : ℕ) → K × ℕ → K × ℕ
greater_between cmp range more x =
    if range_contains cmp (bound_key range.0) (bound_key range.1) x.0 then greater_by more x else x
