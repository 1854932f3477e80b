-- Lists of pairs in the order of their keys, and where a key is, or would be, in one.
-- A map is such a list, and the contracts of map and tree cite these words. Inserting and removing at a place are
-- `insert` and `remove` of std's lists, which undo each other (`insert-remove` and `remove-insert` in
-- `proofs/PairEdits.antt`).
use Rattle.std.specs.Prelude.{◌≡◌, ℕ, ◌≤◌, suc, List, Option, Some, Result, Ok, Err, length, is_some, slice_get, if◌then◌else◌}
use Rattle.std.specs.List.{count_by, insert}
use Rattle.std.specs.List.Sorted.{IsStrictlySortedBy}
use Rattle.std.specs.Map.{keys_of, lookup_entry, set_value}
use Rattle.std.specs.Option.{option_map}
use Rattle.std.specs.declared.cmp.Ordering.{Ordering}
use Rattle.std.specs.declared.cmp.Ordering.TheVariants.{Less}
use Rattle.std.specs.Ordering.{is_eq, is_lt}

-- A key may be sought by another key or by a query of another type: `cmp x k` says on which side of k the key x is.
module _ {K Q V : Type 0} (cmp : K → Q → Ordering) where
  -- how many pairs have a key below k
  abbrev pub before : Q → List (K × V) → ℕ
  before k xs = count_by (λ x. is_lt (cmp x.0 k)) xs

  -- the pair with a key equal to k, if there is one
  abbrev pub found : Q → List (K × V) → Option (K × V)
  found k xs = lookup_entry (λ q. is_eq (cmp q k)) xs

  -- the value at a key equal to k, if there is one
  abbrev pub found_value : Q → List (K × V) → Option V
  found_value k xs = option_map (λ x. x.1) (found k xs)

  -- Ok with the place of the pair whose key is equal to k; Err with the number of smaller keys
  abbrev pub place_of : Q → List (K × V) → Result ℕ ℕ
  place_of k xs = if is_some (found k xs) then Ok (before k xs) else Err (before k xs)

  -- with w as the value at a key equal to k, if there is one
  abbrev pub with_value : Q → V → List (K × V) → List (K × V)
  with_value k w xs = set_value (λ q. is_eq (cmp q k)) xs w

module _ {K V : Type 0} (cmp : K → K → Ordering) where
  -- the keys ascend strictly
  abbrev pub Ascends : List (K × V) → Type 0
  Ascends xs = IsStrictlySortedBy cmp (keys_of xs)

  -- after an insertion: an equal key stays and gets the value; otherwise the pair is inserted at its place
  abbrev pub inserted : K → V → List (K × V) → List (K × V)
  inserted k w xs = if is_some (found cmp k xs) then with_value cmp k w xs else insert xs (before cmp k xs) (k, w)

  -- a key fits at a place: above the key before it, below the key there
  pub record KeyFits (k : K) (p : ℕ) (xs : List (K × V)) : Type 0 where
    pub within : p ≤ length xs
    pub above : (q : ℕ) (x : K × V) → suc q ≡ p → slice_get xs q ≡ Some x → cmp x.0 k ≡ Less
    pub below : (x : K × V) → slice_get xs p ≡ Some x → cmp k x.0 ≡ Less
