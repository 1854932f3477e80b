-- The two bounds of a range of keys, each included, excluded or absent. `entries_between` of std says which pairs of a
-- list are between them.
use Rattle.std.specs.Prelude.{◌≡◌, Bool, true, List}
use Rattle.std.specs.BTreeMap.Range.{entries_between}
use Rattle.std.specs.Borrow.{Bor}
use Rattle.std.specs.Ordering.{is_le, is_lt}
use Rattle.std.specs.Range.Bound.{bound_map}
use Rattle.std.specs.declared.cmp.Ordering.{Ordering}
use Rattle.std.specs.declared.ops.Bound.{Bound}
use Rattle.std.specs.declared.ops.Bound.TheVariants.{Included, Excluded, Unbounded}
use Rattle.btree_laws.specs.TreeState.{TreeState, pairs_of}

-- a bound by the key that its reference leads to
abbrev pub bound_key : {K : Type 0} → Bound (Bor K) → Bound K
bound_key bound = bound_map (λ key. key.now) bound

-- whether the start is at most the end, and not equal to it where both are excluded
abbrev pub is_valid : {K : Type 0} → (K → K → Ordering) → (start end : Bound K) → Bool
is_valid cmp Unbounded end = true
is_valid cmp (Included a) Unbounded = true
is_valid cmp (Included a) (Included b) = is_le (cmp a b)
is_valid cmp (Included a) (Excluded b) = is_le (cmp a b)
is_valid cmp (Excluded a) Unbounded = true
is_valid cmp (Excluded a) (Included b) = is_le (cmp a b)
is_valid cmp (Excluded a) (Excluded b) = is_lt (cmp a b)

-- a range that may be asked for
abbrev pub IsValidRange : {K : Type 0} → (K → K → Ordering) → Bound (Bor K) × Bound (Bor K) → Type 0
IsValidRange cmp range = is_valid cmp (bound_key range.0) (bound_key range.1) ≡ true

-- the pairs of a list whose keys are between the two bounds of a range
abbrev pub pairs_between : {K V : Type 0} → (K → K → Ordering) → Bound (Bor K) × Bound (Bor K) → List (K × V) → List (K × V)
pairs_between cmp range pairs = entries_between cmp (bound_key range.0) (bound_key range.1) pairs

-- the pairs of a tree from a start bound on, and those up to an end bound
abbrev pub pairs_from : {K V : Type 0} → (K → K → Ordering) → (start : Bound K) → TreeState K V → List (K × V)
pairs_from cmp start tree = entries_between cmp start Unbounded (pairs_of tree)

abbrev pub pairs_up_to : {K V : Type 0} → (K → K → Ordering) → (end : Bound K) → TreeState K V → List (K × V)
pairs_up_to cmp end tree = entries_between cmp Unbounded end (pairs_of tree)
