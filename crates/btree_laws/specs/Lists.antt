-- Lists of numbers: sums, and how often a number is in one.
use Rattle.std.specs.Prelude.{ℕ, ◌+◌, ◌==◌, if◌then◌else◌, List, [], ◌∷◌, Option, Some, None}

-- the sum of a function over a list
abbrev pub total : {X : Type 0} → (X → ℕ) → List X → ℕ
total f [] = 0
total f (x ∷ xs) = f x + total f xs

-- 1 if two numbers are equal, else 0
abbrev pub one : ℕ → ℕ → ℕ
one n id = if n == id then 1 else 0

-- how often a number is in a list
abbrev pub times_listed : ℕ → List ℕ → ℕ
times_listed n ns = total (λ id. one n id) ns

-- a number, if there is one, as a list
abbrev pub as_list : Option ℕ → List ℕ
as_list None = []
as_list (Some id) = id ∷ []
