-- Writing the values of a list one after the other.
use Rattle.std.proofs.Common.{◌≡◌, ℕ, zero, suc, ◌+◌, ◌<◌, ◌≤◌, List, [], ◌∷◌, ◌++◌, length, drop, Some, None, Result, Ok, Err, refl, sym, ap, ◌∙◌, append_assoc, arith, inl, inr}
use Rattle.std.specs.Prelude.{IfSome, OnOk, slice_get}
use Rattle.std.specs.List.{flat_map}
use Rattle.std.proofs.lemmas.Bool.{cases_eq, cases_lt}
use Rattle.std.proofs.lemmas.List.{append-nil}
use Rattle.std.proofs.lemmas.List.Concat.{flat_map-cons}
use Rattle.btree_image.specs.Parse.{Parse}
use Rattle.btree_image.specs.Written.{AreReadBy, IsReadBy}

module _ {X : Type 0} (parse : Parse X) (spell : X → List ℕ) (xs : List X) where
  -- the first i are written, and are read again
  pub record HasPut (start out : List ℕ) (i : ℕ) : Type 0 where
    pub text : out ++ flat_map spell (drop i xs) ≡ start ++ flat_map spell xs
    pub read : (k : ℕ) → k < i → IfSome (slice_get xs k) (IsReadBy parse spell)

  pub put-none : (start : List ℕ) → HasPut start start 0
  put-none start = record { text = refl; read = λ k h. absurd (omega arith) }

  -- one more
  pub put-one : (start out : List ℕ) (i : ℕ) (x : X) (after : List ℕ) → drop i xs ≡ x ∷ drop (i + 1) xs → slice_get xs i ≡ Some x → after ≡ out ++ spell x → IsReadBy parse spell x
      → HasPut start out i → HasPut start after (i + 1)
  put-one start out i x after begins at is read before =
      let first : flat_map spell (drop i xs) ≡ spell x ++ flat_map spell (drop (i + 1) xs) = ap (flat_map spell) begins ∙ flat_map-cons spell x (drop (i + 1) xs) in
      record {
        text = ap (λ (t : List ℕ). t ++ flat_map spell (drop (i + 1) xs)) is ∙ append_assoc out (spell x) (flat_map spell (drop (i + 1) xs)) ∙ ap (λ (t : List ℕ). out ++ t) (sym first) ∙ before.text;
        read = λ k h. elim (cases_eq k i) [
          | inl same ↦ rw (same, at) read
          | inr other ↦ before.read k (omega arith)
        ];
      }

  get-past : (ys : List X) (k : ℕ) → length ys ≤ k → slice_get ys k ≡ None
  get-past [] k le = refl
  get-past (y ∷ ys) zero le = absurd (omega arith)
  get-past (y ∷ ys) (suc k) le = get-past ys k (omega arith)

  drop-past : (ys : List X) (k : ℕ) → length ys ≤ k → drop k ys ≡ []
  drop-past [] zero le = refl
  drop-past [] (suc k) le = refl
  drop-past (y ∷ ys) zero le = absurd (omega arith)
  drop-past (y ∷ ys) (suc k) le = drop-past ys k (omega arith)

  pub put-all : (start out : List ℕ) (i : ℕ) → length xs ≤ i → HasPut start out i → (out ≡ start ++ flat_map spell xs) × AreReadBy parse spell xs
  put-all start out i le before =
      let none : flat_map spell (drop i xs) ≡ [] = ap (flat_map spell) (drop-past xs i le) in (
        sym (append-nil out) ∙ ap (λ (t : List ℕ). out ++ t) (sym none) ∙ before.text,
        λ k. elim (cases_lt k i) [
          | inl inside ↦ before.read k inside
          | inr past ↦ rw (get-past xs k (omega arith)) tt
        ],
      )

pub on_ok : {T E P : Type 0} (r : Result T E) → P → OnOk r P
on_ok (Ok x) p = p
on_ok (Err e) p = tt

-- what was appended, and what was appended then
pub put-two : (start a b middle end : List ℕ) → middle ≡ start ++ a → end ≡ middle ++ b → end ≡ start ++ (a ++ b)
put-two start a b middle end first then = then ∙ ap (λ (t : List ℕ). t ++ b) first ∙ append_assoc start a b

module _ {X : Type 0} where
  -- the rest of a list begins with the value at its index
  pub drop-get : (xs : List X) (i : ℕ) (x : X) → slice_get xs i ≡ Some x → drop i xs ≡ x ∷ drop (i + 1) xs
  drop-get [] i x at = absurd cc
  drop-get (y ∷ ys) zero x at = let same : y ≡ x = cc in ap (λ (z : X). z ∷ ys) same
  drop-get (y ∷ ys) (suc i) x at =
      let shift : suc i + 1 ≡ suc (i + 1) = omega arith in
      drop-get ys i x at ∙ ap (λ (k : ℕ). x ∷ drop k (y ∷ ys)) (sym shift)

  pub get-drop : (xs : List X) (i : ℕ) (x : X) (rest : List X) → drop i xs ≡ x ∷ rest → slice_get xs i ≡ Some x
  get-drop [] zero x rest e = absurd cc
  get-drop [] (suc i) x rest e = absurd cc
  get-drop (y ∷ ys) zero x rest e = let same : y ≡ x = cc in ap Some same
  get-drop (y ∷ ys) (suc i) x rest e = get-drop ys i x rest e

  -- past the end there is nothing to begin with
  pub drop-none : (xs : List X) (i : ℕ) → i < length xs → drop i xs ≡ [] → ⊥
  drop-none [] i lt e = omega arith
  drop-none (y ∷ ys) zero lt e = absurd cc
  drop-none (y ∷ ys) (suc i) lt e = drop-none ys i (omega arith) e

  -- an index within a list has a value
  pub get-none : (xs : List X) (i : ℕ) → i < length xs → slice_get xs i ≡ None → ⊥
  get-none [] i lt e = omega arith
  get-none (y ∷ ys) zero lt e = absurd cc
  get-none (y ∷ ys) (suc i) lt e = get-none ys i (omega arith) e
