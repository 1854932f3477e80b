-- Signed numbers, numbers of sixteen bytes and characters are read as they were written, and what is read is spelled so.
use Rattle.std.proofs.Common.{◌≡◌, ℕ, ◌+◌, ◌*◌, ◌/◌, ◌%◌, ◌^◌, ◌<◌, Bool, true, false, cond, ltb, List, [], ◌∷◌, ◌++◌, length, take, drop, Option, Some, None, refl, sym, subst, arith}
use Rattle.std.specs.Prelude.{option_map}
use Rattle.std.specs.Option.{option_and_then}
use Rattle.std.specs.Int.{w8, w16, w32, w64, w128, cast_signed, cast_unsigned}
use Rattle.std.proofs.lemmas.Bool.{le-ltb}
use Rattle.std.proofs.lemmas.List.{drop_at, length-append, take-append-drop, take_at}
use lib.Utf8.{scalar}
use Rattle.std.specs.Char.{IsScalar}
use Rattle.std.proofs.lemmas.Int.{of_z-to_z, to_z-of_z}
use Rattle.btree_spelled.specs.Integers.{char_bytes, char_of, char_read, halves, joined, long_bytes, long_read, signed_byte_bytes, signed_byte_read, signed_bytes, signed_long_bytes, signed_long_read, signed_read}
use Rattle.btree_spelled.specs.MappedLaws.{mapped-again, mapped-takes-if}
use Rattle.btree_spelled.specs.Numbers.{array_bytes, array_read, byte_bytes, byte_read, number_bytes, number_read}
use Rattle.btree_spelled.specs.NumberLaws.{byte-takes, number-below, pair-again, pair-below, pair-takes, some_is, u16-again, u16-takes, u32-again, u64-again, u32-takes, u64-takes, wide16, wide32, wide64}
use Rattle.btree_spelled.specs.Pairs.{pair_bytes, pair_read}
use Rattle.btree_spelled.specs.Spelled.{AreBytes, Takes}

byte-below : (bytes rest : List ℕ) (n : ℕ) → AreBytes bytes → byte_read bytes ≡ Some (n, rest) → n < 2 ^ 8
unfolding byte_read
byte-below [] rest n fits e = absurd cc
byte-below (b ∷ bytes) rest n fits e = subst (λ (x : ℕ × List ℕ). x.0 < 2 ^ 8) (some_is (b, bytes) (n, rest) e) (fits 0)

pub i8-takes : Takes signed_byte_bytes signed_byte_read
i8-takes = mapped-takes-if (cast_unsigned w8) (cast_signed w8) byte_bytes byte_read (λ bytes rest n fits e. of_z-to_z w8 n (byte-below bytes rest n fits e)) byte-takes

pub i16-takes : Takes (signed_bytes w16) (signed_read w16)
i16-takes = mapped-takes-if (cast_unsigned w16) (cast_signed w16) (number_bytes w16) (number_read w16)
    (λ bytes rest n fits e. of_z-to_z w16 n (number-below w16 (2 ^ 16) wide16 bytes rest n fits e)) u16-takes

pub i32-takes : Takes (signed_bytes w32) (signed_read w32)
i32-takes = mapped-takes-if (cast_unsigned w32) (cast_signed w32) (number_bytes w32) (number_read w32)
    (λ bytes rest n fits e. of_z-to_z w32 n (number-below w32 (2 ^ 32) wide32 bytes rest n fits e)) u32-takes

pub i64-takes : Takes (signed_bytes w64) (signed_read w64)
i64-takes = mapped-takes-if (cast_unsigned w64) (cast_signed w64) (number_bytes w64) (number_read w64)
    (λ bytes rest n fits e. of_z-to_z w64 n (number-below w64 (2 ^ 64) wide64 bytes rest n fits e)) u64-takes

-- both words are below 2^64
words-below : (bytes rest : List ℕ) (x : ℕ × ℕ) → AreBytes bytes → pair_read (number_read w64) (number_read w64) bytes ≡ Some (x, rest) → (x.0 < 2 ^ 64) × (x.1 < 2 ^ 64)
words-below = pair-below (number_bytes w64) (number_bytes w64) (number_read w64) (number_read w64) u64-takes (λ n. n < 2 ^ 64) (λ n. n < 2 ^ 64) (number-below w64 (2 ^ 64) wide64) (number-below w64 (2 ^ 64) wide64)

halves-joined : (x : ℕ × ℕ) → x.1 < 2 ^ 64 → halves (joined x) ≡ x
halves-joined x low =
    let high : (x.0 * 2 ^ 64 + x.1) / 2 ^ 64 ≡ x.0 = omega arith in
    let rest : (x.0 * 2 ^ 64 + x.1) % 2 ^ 64 ≡ x.1 = omega arith in
    λ i. (high i, rest i)

pub joined-halves : (n : ℕ) → joined (halves n) ≡ n
joined-halves n = omega arith

pub u128-takes : Takes long_bytes long_read
u128-takes = mapped-takes-if halves joined (pair_bytes (number_bytes w64) (number_bytes w64)) (pair_read (number_read w64) (number_read w64))
    (λ bytes rest x fits e. halves-joined x (words-below bytes rest x fits e).1) (pair-takes (number_bytes w64) (number_bytes w64) (number_read w64) (number_read w64) u64-takes u64-takes)

-- a number that is read is below 2^128
long-below : (bytes rest : List ℕ) (n : ℕ) → AreBytes bytes → (found : Option ((ℕ × ℕ) × List ℕ)) → ((x : ℕ × ℕ) (after : List ℕ) → found ≡ Some (x, after) → (x.0 < 2 ^ 64) × (x.1 < 2 ^ 64))
    → option_map {U = ℕ × List ℕ} (λ x. (joined x.0, x.1)) found ≡ Some (n, rest) → n < 2 ^ 128
long-below bytes rest n fits None words e = absurd cc
long-below bytes rest n fits (Some x) words e =
    let w = words x.0 x.1 refl in
    subst (λ (y : ℕ × List ℕ). y.0 < 2 ^ 128) (some_is (joined x.0, x.1) (n, rest) e) (omega (arith, w.0, w.1))

pub i128-takes : Takes signed_long_bytes signed_long_read
i128-takes = mapped-takes-if (cast_unsigned w128) (cast_signed w128) long_bytes long_read
    (λ bytes rest n fits e. of_z-to_z w128 n (long-below bytes rest n fits (pair_read (number_read w64) (number_read w64) bytes) (λ x after is. words-below bytes after x fits is) e)) u128-takes

char_is : (bytes rest : List ℕ) (n : ℕ) (found : ℕ × List ℕ) (b : Bool) → cond b (Some found) None ≡ Some (n, rest) → bytes ≡ char_bytes found.0 ++ found.1 → bytes ≡ char_bytes n ++ rest
char_is bytes rest n found false e is = absurd cc
char_is bytes rest n found true e is = let same : found ≡ (n, rest) = cc in subst (λ (x : ℕ × List ℕ). bytes ≡ char_bytes x.0 ++ x.1) same is

char_found : (bytes rest : List ℕ) (n : ℕ) → AreBytes bytes → (found : Option (ℕ × List ℕ)) → number_read w32 bytes ≡ found → option_and_then char_of found ≡ Some (n, rest) → bytes ≡ char_bytes n ++ rest
char_found bytes rest n fits None is e = absurd cc
char_found bytes rest n fits (Some x) is e = char_is bytes rest n x (scalar x.0) e (u32-takes bytes x.1 x.0 fits is)

pub char-takes : Takes char_bytes char_read
unfolding char_read
char-takes bytes rest n fits e = char_found bytes rest n fits (number_read w32 bytes) refl e

pub char-again : (n : ℕ) → IsScalar n → (rest : List ℕ) → number_read w32 (char_bytes n ++ rest) ≡ Some (n, rest) → char_read (char_bytes n ++ rest) ≡ Some (n, rest)
unfolding char_read
char-again n is rest again = rw (again, is) refl

pub long-again : (n : ℕ) (rest : List ℕ) → pair_read (number_read w64) (number_read w64) (long_bytes n ++ rest) ≡ Some (halves n, rest) → long_read (long_bytes n ++ rest) ≡ Some (n, rest)
long-again n rest again = rw (again, joined-halves n) refl

array_is : (b : Bool) (bytes rest xs : List ℕ) (found : List ℕ × List ℕ) → bytes ≡ found.0 ++ found.1 → cond b None (Some found) ≡ Some (xs, rest) → bytes ≡ xs ++ rest
array_is true bytes rest xs found is e = absurd cc
array_is false bytes rest xs found is e = subst (λ (x : List ℕ × List ℕ). bytes ≡ x.0 ++ x.1) (some_is found (xs, rest) e) is

pub array-takes : (n : ℕ) → Takes array_bytes (array_read n)
unfolding array_read
array-takes n bytes rest xs fits e = array_is (ltb (length bytes) n) bytes rest xs (take n bytes, drop n bytes) (sym (take-append-drop n bytes)) e

pub array-again : (n : ℕ) (xs rest : List ℕ) → length xs ≡ n → array_read n (xs ++ rest) ≡ Some (xs, rest)
unfolding array_read
array-again n xs rest long =
    let enough : ltb (length (xs ++ rest)) n ≡ false = le-ltb _ _ (omega (arith, length-append xs rest)) in
    rw (enough, take_at xs rest n long, drop_at xs rest n long) refl

pub ruleset arrays = (array-again)

-- what was written is read
pub ruleset wider = (u16-again, u32-again, u64-again, pair-again, mapped-again, joined-halves, to_z-of_z)
