-- Words that are a number, and words that are not.
use Rattle.btree_session.proofs.Common.{◌≡◌, ℕ, ◌+◌, ◌^◌, ◌<◌, ◌≤◌, List, take, length, get_or, sym, arith, take_all, IsNumber}
use Rattle.std.proofs.Common.{◌*◌}
use Rattle.std.specs.Int.{IsInRange}
use Rattle.std.specs.Str.Parse.{AllDigits, digits_value}
use Rattle.std.proofs.lemmas.Int.Digits.{digits_value_more, digits_more}
use Rattle.std.proofs.lemmas.Str.{digit_value_digit}
use Rattle.std.proofs.lemmas.Str.Parse.{digits_value-take-le, digit_at}

-- the digits so far, and their value
pub record AreDigits (word : List ℕ) (count value : ℕ) : Type 0 where
  pub digits : AllDigits 10 (take count word)
  pub is_value : value ≡ digits_value 10 (take count word)

-- one more digit
pub more_digits : (word : List ℕ) (i value next : ℕ) → AreDigits word i value → i < length word → IsInRange 48 57 (get_or word i 0)
    → next + 48 ≡ value * 10 + get_or word i 0 → AreDigits word (i + 1) next
more_digits word i value next so_far within digit is_next = record {
  digits = digits_more 10 word i within so_far.digits (omega (arith, digit_value_digit (get_or word i 0) digit));
  is_value = omega (arith, digits_value_more 10 word i within, digit_value_digit (get_or word i 0) digit, so_far.is_value);
}

-- all of them
pub all_digits : (word : List ℕ) (i value : ℕ) → AreDigits word i value → length word ≤ i → 0 < length word → value < 2 ^ 64 → IsNumber value word
all_digits word i value so_far all some fits = record {
  numeral = (some, rw take_all at so_far.digits);
  value = sym (rw take_all at so_far.is_value);
  is_u64 = fits;
}

-- a byte that is not a digit
pub no_digit : (word : List ℕ) (i n : ℕ) → i < length word → (IsInRange 48 57 (get_or word i 0) → ⊥) → IsNumber n word → ⊥
no_digit word i n within other is_number = other (digit_at word i is_number.numeral.1 within)

-- a value of more than 64 bits, with the next digit
pub too_large : (word : List ℕ) (i value n : ℕ) → AreDigits word i value → i < length word → IsInRange 48 57 (get_or word i 0)
    → 2 ^ 64 + 48 ≤ value * 10 + get_or word i 0 → IsNumber n word → ⊥
too_large word i value n so_far within digit large is_number =
    omega (arith, digits_value_more 10 word i within, digits_value-take-le 10 word (i + 1) (omega arith), digit_value_digit (get_or word i 0) digit, so_far.is_value, is_number.value, is_number.is_u64)
