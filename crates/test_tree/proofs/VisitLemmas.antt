-- Steps of a visit, counted along the list of addresses that it passes.
use Rattle.std.proofs.Common.{◌≡◌, ◌≤◌, ℕ, zero, suc, List, [], ◌∷◌, length, slice_get, Some, None, refl, arith}
use Rattle.btree_laws.specs.Visits.{prior}

-- no element is at an index past the end alone
pub get-none : {A : Type 0} (list : List A) (i : ℕ) → slice_get list i ≡ None → length list ≤ i
get-none [] i none = omega arith
get-none (x ∷ list) zero none = absurd (cc)
get-none (x ∷ list) (suc i) none = let past = get-none list i none in omega arith

module _ {A : Type 0} (list : List A) where
  -- backwards, an address that is there is at the index before
  pub prior-some : (m : ℕ) (a : A) → prior list m ≡ Some a → (i : ℕ) × (m ≡ suc i) × (slice_get list i ≡ Some a)
  prior-some zero a is = absurd (cc)
  prior-some (suc i) a is = (i, refl, is)

  -- without one the start of the list is reached
  pub prior-none : (m : ℕ) → m ≤ length list → prior list m ≡ None → m ≡ 0
  prior-none zero within none = refl
  prior-none (suc i) within none = let past = get-none list i none in absurd (omega arith)
