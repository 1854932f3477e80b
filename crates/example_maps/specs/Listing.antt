-- A page of a listing, and a part of it that is counted.
use Rattle.std.specs.Prelude.{ℕ, List, length, take}
use Rattle.std.specs.BTreeMap.Range.{entries_between}
use Rattle.std.specs.Map.{keys_of}
use Rattle.std.specs.Ordering.{nat_cmp}
use Rattle.std.specs.declared.ops.Bound.TheVariants.{Excluded, Included, Unbounded}
use Rattle.btree_slab.specs.TreeState.{TreeState, pairs_of}

-- the first parts of a listing that come after one, at most `size` of them
abbrev pub page_after : {V : Type 0} → (last size : ℕ) → TreeState ℕ V → List ℕ
page_after last size listing = take size (keys_of (entries_between nat_cmp (Excluded last) Unbounded (pairs_of listing)))

-- how many parts of a listing are from one on and before another
abbrev pub count_between : {V : Type 0} → (first last : ℕ) → TreeState ℕ V → ℕ
count_between first last listing = length (entries_between nat_cmp (Included first) (Excluded last) (pairs_of listing))
