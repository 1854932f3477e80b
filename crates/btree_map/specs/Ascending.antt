-- The end of a map, where the pairs of an ascending source go.
use Rattle.std.specs.Prelude.{◌≡◌, ◌-◌, ℕ, suc, List, [], Option, None, Some, length, slice_get}
use Rattle.std.specs.declared.cmp.Ordering.{Ordering}
use Rattle.std.specs.declared.cmp.Ordering.TheVariants.{Less}
use Rattle.btree_item.specs.Address.{Address}
use Rattle.btree_laws.specs.TreeState.{TreeState, pairs_of}
use Rattle.btree_laws.specs.TreeAddresses.{leaf_backs_of}
use Rattle.btree_find.specs.Navigation.{IsItemAddress}

-- the address of the last pair
pub record IsLastPair {K V : Type 0} (s : TreeState K V) (a : Address) : Type 0 where
  pub place : ℕ
  pub last : suc place ≡ length (pairs_of s)
  pub here : IsItemAddress s place a

-- the back address in a leaf behind the last pair; nowhere in a map without pairs
abbrev pub IsLastGap : {K V : Type 0} → TreeState K V → Address → Type 0
IsLastGap s a = slice_get (leaf_backs_of s) (length (pairs_of s)) ≡ Some a

-- the key is greater than that of the last pair, if there is one
abbrev pub IsAboveLast : {K V : Type 0} → (K → K → Ordering) → K → List (K × V) → Type 0
IsAboveLast {K} {V} cmp k xs = (x : K × V) → slice_get xs (length xs - 1) ≡ Some x → cmp x.0 k ≡ Less

-- the key goes behind the last pair, and no search is needed to know it: it is greater than that of the last pair, whose address is given, or
-- there are no pairs
abbrev pub GoesLast : {K V : Type 0} → (K → K → Ordering) → K → Option Address → TreeState K V → Type 0
GoesLast cmp k last s = IsAboveLast cmp k (pairs_of s) × (last ≡ None → pairs_of s ≡ [])
