-- Numbers, booleans and pairs are read as they were written, and what is read is spelled so.
use Rattle.std.proofs.Common.{◌≡◌, ℕ, zero, suc, ◌+◌, ◌^◌, ◌<◌, ◌≤◌, Bool, true, false, cond, ltb, List, [], ◌∷◌, ◌++◌, length, take, drop, Option, Some, None, refl, sym, ap, subst, ◌∙◌, append_assoc, arith, inl, inr}
use Rattle.std.specs.Prelude.{option_map}
use Rattle.std.specs.Option.{option_and_then}
use Rattle.std.specs.Int.{Width, w16, w32, w64, byte_len, from_be_bytes, to_be_bytes}
use Rattle.std.proofs.lemmas.Bool.{cases_lt, ltb-false, le-ltb}
use Rattle.std.proofs.lemmas.List.{take_at, drop_at, take-append-drop, length-append, length-take, get_or-append-add, get_or-drop, get_or-take, get_or_past}
use Rattle.std.proofs.lemmas.Nat.{be_bytes_2, be_bytes_4, be_bytes_8, from_be_bytes-to_be_bytes_2, from_be_bytes-to_be_bytes_4, from_be_bytes-to_be_bytes_8}
use Rattle.btree_spelled.specs.Numbers.{bool_bytes, bool_read, byte_bytes, byte_read, number_bytes, number_read, unit_bytes, unit_read}
use Rattle.btree_spelled.specs.Pairs.{pair_bytes, pair_read}
use Rattle.btree_spelled.specs.Spelled.{AreBytes, Read}

-- what is left of bytes is bytes
pub AreBytes-drop : (n : ℕ) (bytes : List ℕ) → AreBytes bytes → AreBytes (drop n bytes)
AreBytes-drop n bytes h i = rw get_or-drop (h (n + i))

pub AreBytes-take : (n : ℕ) (bytes : List ℕ) → AreBytes bytes → AreBytes (take n bytes)
AreBytes-take n bytes h i =
    elim (cases_lt i n) [
      | inl lt ↦ rw (get_or-take n bytes i 0 lt) (h i)
      | inr le ↦ rw (get_or_past (take n bytes) i 0 (omega (arith, length-take n bytes))) (omega arith)
    ]

pub AreBytes-rest : (front rest : List ℕ) → AreBytes (front ++ rest) → AreBytes rest
AreBytes-rest front rest h i = rw (get_or-append-add front rest i 0) at (h (length front + i))

-- numbers of this width are spelled in so many bytes, and read back
pub record IsWide (w : Width) (limit : ℕ) : Type 0 where
  pub len : (n : ℕ) → length (to_be_bytes w n) ≡ byte_len w
  pub back : (bytes : List ℕ) → length bytes ≡ byte_len w → AreBytes bytes → to_be_bytes w (from_be_bytes w bytes) ≡ bytes
  pub again : (n : ℕ) → n < limit → from_be_bytes w (to_be_bytes w n) ≡ n
  pub below : (bytes : List ℕ) → AreBytes bytes → from_be_bytes w bytes < limit

below16 : (bytes : List ℕ) → AreBytes bytes → from_be_bytes w16 bytes < 2 ^ 16
below16 bytes fits = let b0 = fits 0 in let b1 = fits 1 in omega arith

below32 : (bytes : List ℕ) → AreBytes bytes → from_be_bytes w32 bytes < 2 ^ 32
below32 bytes fits = let b0 = fits 0 in let b1 = fits 1 in let b2 = fits 2 in let b3 = fits 3 in omega arith

below64 : (bytes : List ℕ) → AreBytes bytes → from_be_bytes w64 bytes < 2 ^ 64
below64 bytes fits =
    let b0 = fits 0 in
    let b1 = fits 1 in
    let b2 = fits 2 in
    let b3 = fits 3 in
    let b4 = fits 4 in
    let b5 = fits 5 in
    let b6 = fits 6 in
    let b7 = fits 7 in
    omega arith

pub wide16 : IsWide w16 (2 ^ 16)
wide16 = record { len = λ n. refl; back = λ bytes len fits. be_bytes_2 bytes _ len fits refl; again = λ n lt. from_be_bytes-to_be_bytes_2 n lt; below = below16 }

pub wide32 : IsWide w32 (2 ^ 32)
wide32 = record { len = λ n. refl; back = λ bytes len fits. be_bytes_4 bytes _ len fits refl; again = λ n lt. from_be_bytes-to_be_bytes_4 n lt; below = below32 }

pub wide64 : IsWide w64 (2 ^ 64)
wide64 = record { len = λ n. refl; back = λ bytes len fits. be_bytes_8 bytes _ len fits refl; again = λ n lt. from_be_bytes-to_be_bytes_8 n lt; below = below64 }

pub some_is : {X : Type 0} (x y : X) → Some x ≡ Some y → x ≡ y
some_is x y e = cc

found_is : {X : Type 0} (b : Bool) (x y : X) → cond b None (Some x) ≡ Some y → (b ≡ false) × (x ≡ y)
found_is true x y e = absurd cc
found_is false x y e = (refl, cc)

number-takes : (w : Width) (limit : ℕ) → IsWide w limit → (bytes rest : List ℕ) (n : ℕ) → AreBytes bytes → number_read w bytes ≡ Some (n, rest) → bytes ≡ number_bytes w n ++ rest
unfolding number_read
number-takes w limit wide bytes rest n fits e =
    let g = found_is (ltb (length bytes) (byte_len w)) (from_be_bytes w (take (byte_len w) bytes), drop (byte_len w) bytes) (n, rest) e in
    let long : byte_len w ≤ length bytes = ltb-false _ _ g.0 in
    let n-is : from_be_bytes w (take (byte_len w) bytes) ≡ n = ap (λ (p : ℕ × List ℕ). p.0) g.1 in
    let rest-is : drop (byte_len w) bytes ≡ rest = ap (λ (p : ℕ × List ℕ). p.1) g.1 in
    let front : to_be_bytes w n ≡ take (byte_len w) bytes = rw (← n-is) (wide.back (take (byte_len w) bytes) (omega (arith, length-take (byte_len w) bytes)) (AreBytes-take (byte_len w) bytes fits)) in
    rw (front, ← rest-is) (sym (take-append-drop (byte_len w) bytes))

-- what is read is below the limit
pub number-below : (w : Width) (limit : ℕ) → IsWide w limit → (bytes rest : List ℕ) (n : ℕ) → AreBytes bytes → number_read w bytes ≡ Some (n, rest) → n < limit
unfolding number_read
number-below w limit wide bytes rest n fits e =
    let g = found_is (ltb (length bytes) (byte_len w)) (from_be_bytes w (take (byte_len w) bytes), drop (byte_len w) bytes) (n, rest) e in
    let n-is : from_be_bytes w (take (byte_len w) bytes) ≡ n = ap (λ (p : ℕ × List ℕ). p.0) g.1 in
    rw (← n-is) (wide.below (take (byte_len w) bytes) (AreBytes-take (byte_len w) bytes fits))

number-again : (w : Width) (limit : ℕ) → IsWide w limit → (n : ℕ) (rest : List ℕ) → n < limit → number_read w (number_bytes w n ++ rest) ≡ Some (n, rest)
unfolding number_read
number-again w limit wide n rest lt =
    let len = wide.len n in
    let long : ltb (length (to_be_bytes w n ++ rest)) (byte_len w) ≡ false = le-ltb _ _ (omega (arith, length-append (to_be_bytes w n) rest)) in
    rw (long, take_at (to_be_bytes w n) rest (byte_len w) len, drop_at (to_be_bytes w n) rest (byte_len w) len, wide.again n lt) refl

pub u16-takes : (bytes rest : List ℕ) (n : ℕ) → AreBytes bytes → number_read w16 bytes ≡ Some (n, rest) → bytes ≡ number_bytes w16 n ++ rest
u16-takes = number-takes w16 (2 ^ 16) wide16

pub u32-takes : (bytes rest : List ℕ) (n : ℕ) → AreBytes bytes → number_read w32 bytes ≡ Some (n, rest) → bytes ≡ number_bytes w32 n ++ rest
u32-takes = number-takes w32 (2 ^ 32) wide32

pub u64-takes : (bytes rest : List ℕ) (n : ℕ) → AreBytes bytes → number_read w64 bytes ≡ Some (n, rest) → bytes ≡ number_bytes w64 n ++ rest
u64-takes = number-takes w64 (2 ^ 64) wide64

pub u16-again : (n : ℕ) (rest : List ℕ) → n < 2 ^ 16 → number_read w16 (number_bytes w16 n ++ rest) ≡ Some (n, rest)
u16-again = number-again w16 (2 ^ 16) wide16

pub u32-again : (n : ℕ) (rest : List ℕ) → n < 2 ^ 32 → number_read w32 (number_bytes w32 n ++ rest) ≡ Some (n, rest)
u32-again = number-again w32 (2 ^ 32) wide32

pub u64-again : (n : ℕ) (rest : List ℕ) → n < 2 ^ 64 → number_read w64 (number_bytes w64 n ++ rest) ≡ Some (n, rest)
u64-again = number-again w64 (2 ^ 64) wide64

pub byte-takes : (bytes rest : List ℕ) (n : ℕ) → AreBytes bytes → byte_read bytes ≡ Some (n, rest) → bytes ≡ byte_bytes n ++ rest
unfolding byte_read
byte-takes [] rest n fits e = absurd cc
byte-takes (b ∷ bytes) rest n fits e = subst (λ (x : ℕ × List ℕ). b ∷ bytes ≡ byte_bytes x.0 ++ x.1) (some_is (b, bytes) (n, rest) e) refl

pub byte-again : (n : ℕ) (rest : List ℕ) → byte_read (byte_bytes n ++ rest) ≡ Some (n, rest)
unfolding byte_read
byte-again n rest = refl

pub bool-takes : (bytes rest : List ℕ) (b : Bool) → AreBytes bytes → bool_read bytes ≡ Some (b, rest) → bytes ≡ bool_bytes b ++ rest
unfolding bool_read
bool-takes [] rest b fits e = absurd cc
bool-takes (zero ∷ bytes) rest b fits e = subst (λ (x : Bool × List ℕ). 0 ∷ bytes ≡ bool_bytes x.0 ++ x.1) (some_is (false, bytes) (b, rest) e) refl
bool-takes (suc zero ∷ bytes) rest b fits e = subst (λ (x : Bool × List ℕ). 1 ∷ bytes ≡ bool_bytes x.0 ++ x.1) (some_is (true, bytes) (b, rest) e) refl
bool-takes (suc (suc n) ∷ bytes) rest b fits e = absurd cc

pub bool-again : (b : Bool) (rest : List ℕ) → bool_read (bool_bytes b ++ rest) ≡ Some (b, rest)
unfolding bool_read
bool-again false rest = refl
bool-again true rest = refl

pub unit-takes : (bytes rest : List ℕ) (x : Unit {0}) → AreBytes bytes → unit_read bytes ≡ Some (x, rest) → bytes ≡ unit_bytes x ++ rest
unfolding unit_read
unit-takes bytes rest x fits e = ap (λ (y : Unit {0} × List ℕ). y.1) (some_is (tt, bytes) (x, rest) e)

pub unit-again : (x : Unit {0}) (rest : List ℕ) → unit_read (unit_bytes x ++ rest) ≡ Some (x, rest)
unfolding unit_read
unit-again x rest = refl

module _ {A B : Type 0} (spell_first : A → List ℕ) (spell_second : B → List ℕ) (read_first : Read A) (read_second : Read B) where
  module _ (first : (bytes rest : List ℕ) (x : A) → AreBytes bytes → read_first bytes ≡ Some (x, rest) → bytes ≡ spell_first x ++ rest)
      (second : (bytes rest : List ℕ) (x : B) → AreBytes bytes → read_second bytes ≡ Some (x, rest) → bytes ≡ spell_second x ++ rest) where
    second_is : (bytes rest : List ℕ) (a : A) (after : List ℕ) (x : A × B) → AreBytes bytes → bytes ≡ spell_first a ++ after → (read : Option (B × List ℕ)) → read_second after ≡ read
        → option_map {U = (A × B) × List ℕ} (λ s. ((a, s.0), s.1)) read ≡ Some (x, rest) → bytes ≡ pair_bytes spell_first spell_second x ++ rest
    second_is bytes rest a after x fits begins None h e = absurd cc
    second_is bytes rest a after x fits begins (Some s) h e =
        let after_fits : AreBytes after = AreBytes-rest (spell_first a) after (subst AreBytes begins fits) in
        let then : after ≡ spell_second s.0 ++ s.1 = second after s.1 s.0 after_fits h in
        subst (λ (y : (A × B) × List ℕ). bytes ≡ pair_bytes spell_first spell_second y.0 ++ y.1) (some_is ((a, s.0), s.1) (x, rest) e)
        (begins ∙ ap (λ (t : List ℕ). spell_first a ++ t) then ∙ sym (append_assoc (spell_first a) (spell_second s.0) s.1))

    first_is : (bytes rest : List ℕ) (x : A × B) → AreBytes bytes → (read : Option (A × List ℕ)) → read_first bytes ≡ read
        → option_and_then {U = (A × B) × List ℕ} (λ f. option_map {U = (A × B) × List ℕ} (λ s. ((f.0, s.0), s.1)) (read_second f.1)) read ≡ Some (x, rest) → bytes ≡ pair_bytes spell_first spell_second x ++ rest
    first_is bytes rest x fits None h e = absurd cc
    first_is bytes rest x fits (Some f) h e = second_is bytes rest f.0 f.1 x fits (first bytes f.1 f.0 fits h) (read_second f.1) refl e

    pub pair-takes : (bytes rest : List ℕ) (x : A × B) → AreBytes bytes → pair_read read_first read_second bytes ≡ Some (x, rest) → bytes ≡ pair_bytes spell_first spell_second x ++ rest
    unfolding pair_read
    pair-takes bytes rest x fits e = first_is bytes rest x fits (read_first bytes) refl e

  module _ (first : (bytes rest : List ℕ) (x : A) → AreBytes bytes → read_first bytes ≡ Some (x, rest) → bytes ≡ spell_first x ++ rest) (P : A → Type 0) (Q : B → Type 0)
      (holds_first : (bytes rest : List ℕ) (x : A) → AreBytes bytes → read_first bytes ≡ Some (x, rest) → P x) (holds_second : (bytes rest : List ℕ) (x : B) → AreBytes bytes → read_second bytes ≡ Some (x, rest) → Q x) where
    second_below : (rest : List ℕ) (a : A) (after : List ℕ) (x : A × B) → P a → AreBytes after → (read : Option (B × List ℕ)) → read_second after ≡ read
        → option_map {U = (A × B) × List ℕ} (λ s. ((a, s.0), s.1)) read ≡ Some (x, rest) → P x.0 × Q x.1
    second_below rest a after x p fits None h e = absurd cc
    second_below rest a after x p fits (Some s) h e =
        subst (λ (y : (A × B) × List ℕ). P y.0.0 × Q y.0.1) (some_is ((a, s.0), s.1) (x, rest) e) (p, holds_second after s.1 s.0 fits h)

    first_below : (bytes rest : List ℕ) (x : A × B) → AreBytes bytes → (read : Option (A × List ℕ)) → read_first bytes ≡ read
        → option_and_then {U = (A × B) × List ℕ} (λ f. option_map {U = (A × B) × List ℕ} (λ s. ((f.0, s.0), s.1)) (read_second f.1)) read ≡ Some (x, rest) → P x.0 × Q x.1
    first_below bytes rest x fits None h e = absurd cc
    first_below bytes rest x fits (Some f) h e =
        let after : AreBytes f.1 = AreBytes-rest (spell_first f.0) f.1 (subst AreBytes (first bytes f.1 f.0 fits h) fits) in
        second_below rest f.0 f.1 x (holds_first bytes f.1 f.0 fits h) after (read_second f.1) refl e

    -- what holds of each value that is read holds in pairs
    pub pair-below : (bytes rest : List ℕ) (x : A × B) → AreBytes bytes → pair_read read_first read_second bytes ≡ Some (x, rest) → P x.0 × Q x.1
    unfolding pair_read
    pair-below bytes rest x fits e = first_below bytes rest x fits (read_first bytes) refl e

  pub pair-again : (x : A × B) → ((rest : List ℕ) → read_first (spell_first x.0 ++ rest) ≡ Some (x.0, rest)) → ((rest : List ℕ) → read_second (spell_second x.1 ++ rest) ≡ Some (x.1, rest))
      → (rest : List ℕ) → pair_read read_first read_second (pair_bytes spell_first spell_second x ++ rest) ≡ Some (x, rest)
  unfolding pair_read
  pair-again x first second rest = rw (append_assoc (spell_first x.0) (spell_second x.1) rest, first, second) refl

-- what was written is read
pub ruleset again = (unit-again, byte-again, u16-again, u32-again, u64-again, bool-again, pair-again)
