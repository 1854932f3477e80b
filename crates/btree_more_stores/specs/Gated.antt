-- What a contract sees of a `Gate`.
use Rattle.std.specs.Prelude.{◌≡◌, ℕ, ◌+◌, refl}
use Rattle.std.specs.Coded.{Coded, code_by, coded×, coded_ℕ}

-- the inner store, which insertion from now on is refused (1 the next one, 0 none), and how often a value was refused
pub record Gated (S : Type 0) : Type 0 where
  pub inner : S
  pub refuses_at : ℕ
  pub refused : ℕ

abbrev pub gated_code : {S : Type 0} → Coded S → Coded (Gated S)
gated_code {S} code =
    code_by
    (S × (ℕ × ℕ))
    (coded× code (coded× coded_ℕ coded_ℕ))
    (λ gate. (gate.inner, (gate.refuses_at, gate.refused)))
    (λ parts. record { inner = parts.0; refuses_at = parts.1.0; refused = parts.1.1 })
    (λ _. refl)

-- the inner store has counted as many refusals as the gate
abbrev pub CountsInside : {S : Type 0} → (S → ℕ) → (old new : Gated S) → Type 0
CountsInside refusals old new = refusals new.inner + old.refused ≡ refusals old.inner + new.refused
