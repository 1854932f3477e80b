-- The digits of a number, and how many there are.
use Rattle.btree_session.proofs.Common.{◌≡◌, ℕ, ◌+◌, ◌^◌, ◌<◌, ◌≤◌, [], ◌∷◌, ◌++◌, length, decimal, ap, ◌∙◌, arith, sym, List, append_assoc, length-append}
use Rattle.std.proofs.Common.{◌/◌, ◌%◌}
use Rattle.std.proofs.lemmas.Fmt.{length-decimal-le}
pub use Rattle.std.proofs.lemmas.Fmt.{decimal_digit, decimal_step}

pub length-decimal_step : (n : ℕ) → 10 ≤ n → n < 2 ^ 64 → length (decimal n) ≡ length (decimal (n / 10)) + 1
length-decimal_step n large fits = ap length (decimal_step n large fits) ∙ length-append (decimal (n / 10)) ((48 + n % 10) ∷ [])

pub length-decimal_digit : (n : ℕ) → n < 10 → length (decimal n) ≡ 1
length-decimal_digit n small = ap length (decimal_digit n small)

pub length-decimal_fits : (n : ℕ) → n < 2 ^ 64 → length (decimal n) ≤ 20
length-decimal_fits n fits = length-decimal-le 20 n (omega arith) (omega arith) fits

-- the last digit after the others
pub decimal_pushed : (n : ℕ) (text most all : List ℕ) → 10 ≤ n → n < 2 ^ 64 → most ≡ text ++ decimal (n / 10) → all ≡ most ++ (48 + n % 10) ∷ [] → all ≡ text ++ decimal n
decimal_pushed n text most all large fits is_most is_all =
    is_all ∙ ap (λ digits. digits ++ (48 + n % 10) ∷ []) is_most ∙ append_assoc text (decimal (n / 10)) ((48 + n % 10) ∷ []) ∙ ap (λ digits. text ++ digits) (sym (decimal_step n large fits))

pub ruleset decimals = (decimal_digit, decimal_step, length-decimal_step, length-decimal_digit, length-decimal_fits)
