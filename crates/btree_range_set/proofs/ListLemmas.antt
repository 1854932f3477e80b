-- Lists that were edited at one place: what is at each place, and how long they are.
use Rattle.btree_range_set.proofs.Common.{◌≡◌, ◌<◌, ℕ, zero, suc, List, [], ◌∷◌, length, set, slice_get, Some, refl, ap, arith, insert, remove}

-- ---- places after a removal
pub get-removed : {X : Type 0} (xs : List X) (p : ℕ) → slice_get (remove xs p) p ≡ slice_get xs (suc p)
get-removed [] zero = refl
get-removed [] (suc p) = refl
get-removed (x ∷ xs) zero = refl
get-removed (x ∷ xs) (suc p) = get-removed xs p

pub get-removed-below : {X : Type 0} (xs : List X) (p q : ℕ) → q < p → slice_get (remove xs p) q ≡ slice_get xs q
get-removed-below xs zero q lt = absurd (omega arith)
get-removed-below [] (suc p) q lt = refl
get-removed-below (x ∷ xs) (suc p) zero lt = refl
get-removed-below (x ∷ xs) (suc p) (suc q) lt = get-removed-below xs p q (omega arith)

-- ---- places after a range was replaced
pub get-set : {X : Type 0} (xs : List X) (p : ℕ) (y : X) → p < length xs → slice_get (set xs p y) p ≡ Some y
get-set [] p y within = absurd (omega arith)
get-set (x ∷ xs) zero y within = refl
get-set (x ∷ xs) (suc p) y within = get-set xs p y (omega arith)

pub get-set-other : {X : Type 0} (xs : List X) (p q : ℕ) (y : X) → (q ≡ p → ⊥) → slice_get (set xs p y) q ≡ slice_get xs q
get-set-other [] p q y other = refl
get-set-other (x ∷ xs) zero zero y other = absurd (other refl)
get-set-other (x ∷ xs) zero (suc q) y other = refl
get-set-other (x ∷ xs) (suc p) zero y other = refl
get-set-other (x ∷ xs) (suc p) (suc q) y other = get-set-other xs p q y (λ is. other (ap (λ i. suc i) is))

-- ---- places after an insertion
pub get-inserted-before : {X : Type 0} (xs : List X) (p : ℕ) (y : X) → p < length xs → slice_get (insert xs (suc p) y) p ≡ slice_get xs p
get-inserted-before [] p y within = absurd (omega arith)
get-inserted-before (x ∷ xs) zero y within = refl
get-inserted-before (x ∷ xs) (suc p) y within = get-inserted-before xs p y (omega arith)

pub set-insert : {X : Type 0} (xs : List X) (q : ℕ) (y z : X) → q < length xs → set (insert xs (suc q) y) q z ≡ insert (set xs q z) (suc q) y
set-insert [] q y z within = absurd (omega arith)
set-insert (x ∷ xs) zero y z within = refl
set-insert (x ∷ xs) (suc q) y z within = ap (λ l. x ∷ l) (set-insert xs q y z (omega arith))
