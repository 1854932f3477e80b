-- Parts in stock, each with its count.
use Rattle.std.specs.Prelude.{◌≡◌, ◌⊎◌, ℕ, Bool, true, false, List, None, not, ◌==◌, ◌++◌, filter}
use Rattle.std.specs.Ordering.{nat_cmp}
use Rattle.std.specs.declared.cmp.Ordering.{Ordering}
use Rattle.std.specs.declared.ops.Bound.TheVariants.{Included}
use Rattle.btree_slab.specs.Pairs.{found_value}
use Rattle.btree_slab.specs.TreeState.{TreeState}
use Rattle.btree_slab.specs.Bounds.{pairs_from}
use Rattle.btree_slab.specs.Spans.{pairs_before}

-- some of the part are left
abbrev pub is_in_stock : {K : Type 0} → K × ℕ → Bool
is_in_stock part = not (part.1 == 0)

-- the parts before one, and of it and those after it the ones of which some are left
abbrev pub left_from : {K : Type 0} → (K → K → Ordering) → (first : K) → TreeState K ℕ → List (K × ℕ)
left_from cmp first stock = pairs_before cmp (Included first) stock ++ filter is_in_stock (pairs_from cmp (Included first) stock)

-- a part has another number, and no other part has changed but the one that had it
pub record IsRenumbered (part number : ℕ) (old new : List (ℕ × ℕ)) : Type 0 where
  pub count : found_value nat_cmp number new ≡ found_value nat_cmp part old
  pub gone : found_value nat_cmp part new ≡ None
  pub others : (other : ℕ) → (other ≡ part → ⊥) → (other ≡ number → ⊥) → found_value nat_cmp other new ≡ found_value nat_cmp other old

-- so it is; or the part is not there or has the number, and nothing has changed
abbrev pub IsRenumberedIf : (part number : ℕ) → (old new : List (ℕ × ℕ)) → Bool → Type 0
IsRenumberedIf part number old new true = IsRenumbered part number old new
IsRenumberedIf part number old new false = ((found_value nat_cmp part old ≡ None) ⊎ (part ≡ number)) × (new ≡ old)
