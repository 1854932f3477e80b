-- Reading values one after the other, as a loop does.
use Rattle.std.proofs.Common.{◌≡◌, ℕ, suc, ◌-◌, ◌+◌, ◌≤◌, ◌<◌, List, [], ◌∷◌, ◌++◌, Result, Ok, Err, refl, sym, ap, ◌∙◌, append_assoc, arith}
use Rattle.std.proofs.lemmas.List.{append-nil}
use Rattle.btree_image.specs.declared.fault.Stop.{Stop}
use Rattle.btree_image.specs.Reading.{◌>>=◌, many}
use Rattle.btree_image.specs.Parse.{Parse}

module _ {X : Type 0} where
  -- what was read before, and what is still read
  abbrev pub with_front : List X → Result (List X × List ℕ) Stop → Result (List X × List ℕ) Stop
  with_front front read = read >>= λ x. Ok (front ++ x.0, x.1)

  regroup : (front : List X) (x : X) (read : Result (List X × List ℕ) Stop) → with_front front (read >>= λ y. Ok (x ∷ y.0, y.1)) ≡ with_front (front ++ x ∷ []) read
  regroup front x (Ok y) = ap (λ (xs : List X). Ok (xs, y.1)) (simp append_assoc)
  regroup front x (Err e) = refl

  module _ (parse : ℕ → Parse X) (count : ℕ) where
    -- of so many values the first i are read, and the others begin these bytes
    pub record HasRead (start : List ℕ) (front : List X) (i : ℕ) (bytes : List ℕ) : Type 0 where
      pub so_far : with_front front (many parse (count - i) bytes) ≡ many parse count start

    none : (read : Result (List X × List ℕ) Stop) → with_front [] read ≡ read
    none (Ok y) = refl
    none (Err e) = refl

    pub begins : (start : List ℕ) → HasRead start [] 0 start
    begins start =
        let all : count - 0 ≡ count = omega arith in
        record { so_far = ap (λ (n : ℕ). with_front [] (many parse n start)) all ∙ none (many parse count start) }

    pub goes_on : (start : List ℕ) (front : List X) (i : ℕ) (bytes : List ℕ) (x : X) (after : List ℕ) → i < count → parse (count - (i + 1)) bytes ≡ Ok (x, after)
        → HasRead start front i bytes → HasRead start (front ++ x ∷ []) (i + 1) after
    unfolding many
    goes_on start front i bytes x after lt h before =
        let k : count - i ≡ suc (count - (i + 1)) = omega arith in
        let one : with_front front (many parse (count - i) bytes) ≡ with_front (front ++ x ∷ []) (many parse (count - (i + 1)) after) = rw (k, h) (regroup front x (many parse (count - (i + 1)) after)) in
        record { so_far = sym one ∙ before.so_far }

    pub ends : (start : List ℕ) (front : List X) (i : ℕ) (bytes : List ℕ) (e : Stop) → i < count → parse (count - (i + 1)) bytes ≡ Err e
        → HasRead start front i bytes → many parse count start ≡ Err e
    unfolding many
    ends start front i bytes e lt h before =
        let k : count - i ≡ suc (count - (i + 1)) = omega arith in
        let one : with_front front (many parse (count - i) bytes) ≡ Err e = rw (k, h) refl in
        sym before.so_far ∙ one

    pub is_done : (start : List ℕ) (front : List X) (i : ℕ) (bytes : List ℕ) → count ≤ i → HasRead start front i bytes → many parse count start ≡ Ok (front, bytes)
    unfolding many
    is_done start front i bytes le before =
        let k : count - i ≡ 0 = omega arith in
        let one : with_front front (many parse (count - i) bytes) ≡ Ok (front, bytes) = rw k (ap (λ (xs : List X). Ok (xs, bytes)) (append-nil front)) in
        sym before.so_far ∙ one

    -- the first value is read
    pub begins_one : (start : List ℕ) (x : X) (after : List ℕ) → 0 < count → parse (count - 1) start ≡ Ok (x, after) → HasRead start (x ∷ []) 1 after
    begins_one start x after some h = goes_on start [] 0 start x after some h (begins start)
