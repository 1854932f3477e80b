-- Orders by price and number, each with what is left of it.
use Rattle.std.specs.Prelude.{ℕ, ◌-◌, List, [], ◌∷◌, min, nat_lt, if◌then◌else◌}
use Rattle.std.specs.Ordering.{nat_cmp, ordering_then}
use Rattle.std.specs.declared.cmp.Ordering.{Ordering}

-- the order of ranks: first by price, then by number
abbrev pub by_rank : ℕ × ℕ → ℕ × ℕ → Ordering
by_rank x y = ordering_then (nat_cmp x.0 y.0) (nat_cmp x.1 y.1)

-- what is left after so much was taken from the first order, or all of it
abbrev pub left_after : {X : Type 0} → (wanted : ℕ) → List (X × ℕ) → List (X × ℕ)
left_after wanted [] = []
left_after wanted (first ∷ later) = if nat_lt wanted first.1 then (first.0, first.1 - wanted) ∷ later else later

-- how much is taken then
abbrev pub taken_of : {X : Type 0} → (wanted : ℕ) → List (X × ℕ) → ℕ
taken_of wanted [] = 0
taken_of wanted (first ∷ later) = min wanted first.1
