-- Keys that are counted: visits at doors, words of a text.
use Rattle.std.specs.Prelude.{◌≡◌, ℕ, List, ◌+◌, min, unwrap_or}
use Rattle.std.specs.declared.cmp.Ordering.{Ordering}
use Rattle.btree_slab.specs.Pairs.{found_value, inserted}

module _ {K : Type 0} (cmp : K → K → Ordering) where
  -- the count of a key after one more, at most `limit`
  abbrev pub count_with_one : (limit : ℕ) (key : K) → List (K × ℕ) → ℕ
  count_with_one limit key counts = min (unwrap_or (found_value cmp key counts) 0 + 1) limit

  -- the count of a key was stored, and that of no other key changed
  abbrev pub StoresCount : (key : K) → (old new : List (K × ℕ)) → (count : ℕ) → Type 0
  StoresCount key old new count = new ≡ inserted cmp key count old
