-- Lists of ranges that are edited at one place: the numbers in them, and that they still are runs.
use Rattle.btree_range_set.proofs.Common.{◌≡◌, ◌≤◌, ◌<◌, ◌∙◌, ℕ, zero, suc, Bool, true, false, ◌||◌, List, [], ◌∷◌, length, set, slice_get, Some, refl, sym, ap, subst, arith, ◌⊎◌, inl, inr, insert, remove, EndsBefore, StartsAfter, AreRunsFrom, has_number, is_within, within-below, within-above, none-below, runs-weaken}
use Rattle.std.specs.List.{AllByRecursion}

-- ---- the numbers of a list that was edited at a place
or-swap : (x y z : Bool) → (x || (y || z)) ≡ (y || (x || z))
or-swap true true z = refl
or-swap true false z = refl
or-swap false true z = refl
or-swap false false z = refl

pub has-taken : (xs : List (ℕ × ℕ)) (p : ℕ) (x : ℕ × ℕ) → slice_get xs p ≡ Some x → (n : ℕ) → has_number xs n ≡ (is_within x n || has_number (remove xs p) n)
has-taken [] p x at n = absurd (cc)
has-taken (y ∷ xs) zero x at n = let same : y ≡ x = cc in ap (λ z. is_within z n || has_number xs n) same
has-taken (y ∷ xs) (suc p) x at n = ap (λ b. is_within y n || b) (has-taken xs p x at n) ∙ or-swap (is_within y n) (is_within x n) (has_number (remove xs p) n)

pub has-put : (xs : List (ℕ × ℕ)) (p : ℕ) (x : ℕ × ℕ) → p ≤ length xs → (n : ℕ) → has_number (insert xs p x) n ≡ (is_within x n || has_number xs n)
has-put xs zero x within n = refl
has-put [] (suc p) x within n = absurd (omega arith)
has-put (y ∷ xs) (suc p) x within n = ap (λ b. is_within y n || b) (has-put xs p x (omega arith) n) ∙ or-swap (is_within y n) (is_within x n) (has_number xs n)

pub has-set : (xs : List (ℕ × ℕ)) (p : ℕ) (x y : ℕ × ℕ) → slice_get xs p ≡ Some x → (n : ℕ) → has_number (set xs p y) n ≡ (is_within y n || has_number (remove xs p) n)
has-set [] p x y at n = absurd (cc)
has-set (z ∷ xs) zero x y at n = refl
has-set (z ∷ xs) (suc p) x y at n = ap (λ b. is_within z n || b) (has-set xs p x y at n) ∙ or-swap (is_within z n) (is_within y n) (has_number (remove xs p) n)

-- ---- where the ranges of runs are
pub run-at : (low : ℕ) (xs : List (ℕ × ℕ)) (p : ℕ) (x : ℕ × ℕ) → AreRunsFrom low xs → slice_get xs p ≡ Some x → (low ≤ x.0) × (x.0 < x.1)
run-at low [] p x runs at = absurd (cc)
run-at low (y ∷ xs) zero x runs at = let same : y ≡ x = cc in subst (λ z. (low ≤ z.0) × (z.0 < z.1)) same (runs.0, runs.1)
run-at low (y ∷ xs) (suc p) x runs at = let later = run-at (suc y.1) xs p x runs.2 at in (omega (arith, later.0, runs.0, runs.1), later.1)

pub next-apart : (low : ℕ) (xs : List (ℕ × ℕ)) (p : ℕ) (x y : ℕ × ℕ) → AreRunsFrom low xs → slice_get xs p ≡ Some x → slice_get xs (suc p) ≡ Some y → x.1 < y.0
next-apart low [] p x y runs at next = absurd (cc)
next-apart low (z ∷ xs) zero x y runs at next =
    let same : z ≡ x = cc in
    let later = run-at (suc z.1) xs zero y runs.2 next in
    subst (λ r. r.1 < y.0) same (omega (arith, later.0))
next-apart low (z ∷ xs) (suc p) x y runs at next = next-apart (suc z.1) xs p x y runs.2 at next

-- ---- runs that were edited at a place are runs
pub runs-taken : (low : ℕ) (xs : List (ℕ × ℕ)) (p : ℕ) → AreRunsFrom low xs → AreRunsFrom low (remove xs p)
runs-taken low [] zero runs = tt
runs-taken low [] (suc p) runs = tt
runs-taken low (x ∷ xs) zero runs = runs-weaken (suc x.1) low xs (omega (arith, runs.0, runs.1)) runs.2
runs-taken low (x ∷ xs) (suc p) runs = (runs.0, runs.1, runs-taken (suc x.1) xs p runs.2)

-- runs from a number on, if the first one starts there
from-first : (low other : ℕ) (xs : List (ℕ × ℕ)) → AreRunsFrom low xs → ((x : ℕ × ℕ) → slice_get xs zero ≡ Some x → other ≤ x.0) → AreRunsFrom other xs
from-first low other [] runs first = tt
from-first low other (x ∷ xs) runs first = (first x refl, runs.1, runs.2)

later-ends : (z : ℕ × ℕ) (xs : List (ℕ × ℕ)) (p n : ℕ) → EndsBefore (z ∷ xs) (suc p) n → EndsBefore xs p n
later-ends z xs p n ends q x next at = ends (suc q) x (ap (λ i. suc i) next) at

pub runs-set : (low : ℕ) (xs : List (ℕ × ℕ)) (p : ℕ) (y : ℕ × ℕ) → AreRunsFrom low xs → p < length xs → y.0 < y.1
    → (p ≡ zero → low ≤ y.0) → EndsBefore xs p y.0 → StartsAfter xs (suc p) y.1 → AreRunsFrom low (set xs p y)
runs-set low [] p y runs within some first ends starts = absurd (omega arith)
runs-set low (x ∷ xs) zero y runs within some first ends starts = (first refl, some, from-first (suc x.1) (suc y.1) xs runs.2 (λ z at. let s = starts z at in omega (arith, s)))
runs-set low (x ∷ xs) (suc p) y runs within some first ends starts =
    (runs.0, runs.1, runs-set (suc x.1) xs p y runs.2 (omega arith) some (λ is. let e = ends zero x (ap (λ i. suc i) (sym is)) refl in omega (arith, e)) (later-ends x xs p y.0 ends) starts)

pub runs-put : (low : ℕ) (xs : List (ℕ × ℕ)) (p : ℕ) (y : ℕ × ℕ) → AreRunsFrom low xs → p ≤ length xs → y.0 < y.1
    → (p ≡ zero → low ≤ y.0) → EndsBefore xs p y.0 → StartsAfter xs p y.1 → AreRunsFrom low (insert xs p y)
runs-put low xs zero y runs within some first ends starts = (first refl, some, from-first low (suc y.1) xs runs (λ z at. let s = starts z at in omega (arith, s)))
runs-put low [] (suc p) y runs within some first ends starts = absurd (omega arith)
runs-put low (x ∷ xs) (suc p) y runs within some first ends starts =
    (runs.0, runs.1, runs-put (suc x.1) xs p y runs.2 (omega arith) some (λ is. let e = ends zero x (ap (λ i. suc i) (sym is)) refl in omega (arith, e)) (later-ends x xs p y.0 ends) starts)

-- ---- no number between two places
or-false : (x y : Bool) → x ≡ false → y ≡ false → (x || y) ≡ false
or-false x y fx fy = rw (fx, fy) refl

pub range-there : {X : Type 0} (xs : List X) (p : ℕ) → p < length xs → (x : X) × (slice_get xs p ≡ Some x)
range-there [] p within = absurd (omega arith)
range-there (x ∷ xs) zero within = (x, refl)
range-there (x ∷ xs) (suc p) within = range-there xs p (omega arith)

-- the first range ends where the one before a later place does, or before
first-ends : (low : ℕ) (x : ℕ × ℕ) (xs : List (ℕ × ℕ)) (p n : ℕ) → AreRunsFrom low (x ∷ xs) → p ≤ length xs → EndsBefore (x ∷ xs) (suc p) n → x.1 < n
first-ends low x xs zero n runs within ends = ends zero x refl refl
first-ends low x xs (suc p) n runs within ends =
    let last = range-there xs p (omega arith) in
    let above = run-at (suc x.1) xs p last.0 runs.2 last.1 in
    let end = ends (suc p) last.0 refl last.1 in
    omega (arith, above.0, above.1, end)

-- if the range before a place ends by n, and the one at the place starts above n, then n is in none
pub has-none : (low : ℕ) (xs : List (ℕ × ℕ)) (p n : ℕ) → AreRunsFrom low xs → p ≤ length xs → EndsBefore xs p (suc n) → StartsAfter xs p n → has_number xs n ≡ false
has-none low [] p n runs within ends starts = refl
has-none low (x ∷ xs) zero n runs within ends starts =
    let above = starts x refl in
    or-false (is_within x n) (has_number xs n) (within-below x n above) (none-below (suc x.1) xs runs.2 n (omega (arith, above, runs.1)))
has-none low (x ∷ xs) (suc p) n runs within ends starts =
    let first = first-ends low x xs p (suc n) runs (omega arith) ends in
    or-false (is_within x n) (has_number xs n) (within-above x n (omega (arith, first)))
    (has-none (suc x.1) xs p n runs.2 (omega arith) (later-ends x xs p (suc n) ends) starts)

-- no range meets or touches the numbers from s up to e, if the one before a place ends below s and the one at it starts above e
pub joins-none : (low : ℕ) (xs : List (ℕ × ℕ)) (p s e : ℕ) → AreRunsFrom low xs → p ≤ length xs → EndsBefore xs p s → StartsAfter xs p e
    → AllByRecursion (λ range. (range.1 < s) ⊎ (e < range.0)) xs
joins-none low [] p s e runs within ends starts = tt
joins-none low (x ∷ xs) zero s e runs within ends starts =
    let above = starts x refl in (
      inr above,
      joins-none (suc x.1) xs zero s e runs.2 (omega arith) (λ q y is at. absurd (cc))
          (λ y at. let later = run-at (suc x.1) xs zero y runs.2 at in omega (arith, above, runs.1, later.0)),
    )
joins-none low (x ∷ xs) (suc p) s e runs within ends starts =
    (inl (first-ends low x xs p s runs (omega arith) ends), joins-none (suc x.1) xs p s e runs.2 (omega arith) (later-ends x xs p s ends) starts)

pub has-here : (xs : List (ℕ × ℕ)) (p : ℕ) (x : ℕ × ℕ) → slice_get xs p ≡ Some x → (n : ℕ) → is_within x n ≡ true → has_number xs n ≡ true
has-here xs p x at n inside = has-taken xs p x at n ∙ rw inside refl
