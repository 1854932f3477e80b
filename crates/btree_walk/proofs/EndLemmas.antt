-- One step at an end of an iterator from both ends.
use Rattle.btree_walk.proofs.Common.{◌≡◌, ℕ, zero, suc, ◌-◌, ◌≤◌, List, [], ◌∷◌, ◌++◌, length, take, refl, sym, ap, ◌∙◌, arith, append_assoc, append-nil, length_push, take_all, take_at}
use Rattle.std.proofs.lemmas.List.{same_from_push}
use Rattle.btree_laws.proofs.LookUp.Descent.{snoc}
use Rattle.btree_walk.specs.Ends.{AreEnds}

taken-none : (A : Type 0) (left : ℕ) → length (take {A = A} left []) ≡ 0
taken-none A zero = refl
taken-none A (suc left) = refl

module _ {A : Type 0} where
  -- the whole list is left
  pub ends-whole : (left : ℕ) (xs : List A) → left ≡ length xs → AreEnds left xs xs
  ends-whole left xs counted =
      let all : take left xs ≡ xs = take_all left xs (omega arith) in
      record { after = []; before = []; front = sym (append-nil (take left xs) ∙ all); back = sym all; counted = counted ∙ ap length (sym all) }

  pub whole-left : (left : ℕ) (xs : List A) → left ≡ length xs → take left xs ≡ xs
  whole-left left xs counted = take_all left xs (omega arith)

  module _ (left : ℕ) (ahead behind : List A) (is : AreEnds left ahead behind) (some : 1 ≤ left) where
    -- the first element was given
    module _ (x : A) (rest : List A) (first : ahead ≡ x ∷ rest) where
      one-more : left ≡ suc (left - 1)
      one-more = omega arith

      pub first-left : take left ahead ≡ x ∷ take (left - 1) rest
      first-left = rw first (ap (λ n. take n (x ∷ rest)) one-more)

      pub ends-first : AreEnds (left - 1) rest behind
      ends-first =
          let all : x ∷ rest ≡ x ∷ (take (left - 1) rest ++ is.after) = sym first ∙ is.front ∙ ap (λ l. l ++ is.after) first-left in
          let tail : rest ≡ take (left - 1) rest ++ is.after = cc in
          let long = is.counted ∙ ap length first-left in
          record {
            after = is.after;
            before = is.before ++ x ∷ [];
            front = tail;
            back = is.back ∙ ap (λ l. is.before ++ l) first-left ∙ sym (append_assoc is.before (x ∷ []) (take (left - 1) rest));
            counted = omega arith;
          }

    -- the last element was given
    module _ (x : A) (rest : List A) (last : behind ≡ rest ++ x ∷ []) where
      record Split : Type 0 where
        pub others : List A
        pub whole : take left ahead ≡ others ++ x ∷ []
        pub kept : rest ≡ is.before ++ others

      split-of : (xs : List A) → take left ahead ≡ xs → left ≡ length xs → Split
      split-of [] e counted = absurd (omega arith)
      split-of (y ∷ ys) e counted =
          let s = snoc y ys in
          let both : rest ++ x ∷ [] ≡ (is.before ++ s.0) ++ s.1 ∷ [] =
          sym last ∙ is.back ∙ ap (λ l. is.before ++ l) (e ∙ s.2) ∙ sym (append_assoc is.before s.0 (s.1 ∷ [])) in
          let same = same_from_push rest (is.before ++ s.0) x s.1 both in
          record { others = s.0; whole = e ∙ s.2 ∙ ap (λ z. s.0 ++ z ∷ []) (sym same.1); kept = same.0 }

      split : Split
      split = split-of (take left ahead) refl is.counted

      others-left : take (left - 1) ahead ≡ split.others
      others-left =
          let long : length split.others ≡ left - 1 = let n = is.counted ∙ ap length split.whole in let m = length_push split.others x in omega arith in
          ap (take (left - 1)) (is.front ∙ ap (λ l. l ++ is.after) split.whole ∙ append_assoc split.others (x ∷ []) is.after)
          ∙ take_at split.others (x ∷ is.after) (left - 1) long

      pub last-left : take left ahead ≡ take (left - 1) ahead ++ x ∷ []
      last-left = split.whole ∙ ap (λ l. l ++ x ∷ []) (sym others-left)

      pub one-shorter : length (take left ahead) ≡ suc (length (take (left - 1) ahead))
      one-shorter = let n = ap length last-left in let m = length_push (take (left - 1) ahead) x in omega arith

      pub ends-last : AreEnds (left - 1) ahead rest
      ends-last =
          let n = is.counted ∙ ap length split.whole in
          let m = length_push split.others x in
          let k = ap length others-left in
          record {
            after = x ∷ is.after;
            before = is.before;
            front = is.front ∙ ap (λ l. l ++ is.after) last-left ∙ append_assoc (take (left - 1) ahead) (x ∷ []) is.after;
            back = split.kept ∙ ap (λ l. is.before ++ l) (sym others-left);
            counted = omega arith;
          }

  -- nothing is behind, so nothing is left
  pub none-behind : (left : ℕ) (ahead behind : List A) → AreEnds left ahead behind → behind ≡ [] → take left ahead ≡ []
  none-behind left ahead behind is none = second is.before (take left ahead) (sym is.back ∙ none)
    where
      second : (xs ys : List A) → xs ++ ys ≡ [] → ys ≡ []
      second [] ys e = e
      second (x ∷ xs) ys e = absurd (cc)

  -- nothing is ahead, so nothing is left
  pub none-ahead : (left : ℕ) (ahead behind : List A) → AreEnds left ahead behind → ahead ≡ [] → left ≡ 0
  none-ahead left ahead behind is none = is.counted ∙ ap (λ l. length (take left l)) none ∙ taken-none A left

  pub left-none : (left : ℕ) (ahead behind : List A) → AreEnds left ahead behind → behind ≡ [] → left ≡ 0
  left-none left ahead behind is none = is.counted ∙ ap length (none-behind left ahead behind is none)
