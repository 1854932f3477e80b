-- The positions in a leaf up to an offset: which addresses are before it, and how many items are.
use Rattle.btree_laws.proofs.Common.{◌≡◌, ◌<◌, ◌++◌, ◌∷◌, [], ◌∙◌, ◌+◌, ℕ, inl, inr, List, length, Option, None, sym, ap, subst, arith, append_assoc, Address, IsAt, Position, address_before, mark, passed, positions_from, positions_to, path_after, path_before, all_positions, Path, items_before}
use Rattle.btree_laws.proofs.Splits.KeptPositions.{singles}
use Rattle.btree_laws.proofs.Places.TreePlaces.{path-passed}
use Rattle.btree_laws.proofs.Places.Lists.{in-cases, passed-append, passed-positions_to, positions_from-append}

module _ (A : Type 0) (c : Path A 0) (i : ℕ) (l : List A) where
  -- the positions before the offset of a leaf, which has the items `l` before that offset
  abbrev pub positions_until : List (Position A)
  positions_until = path_before A c ++ (mark (address_before i) None ∷ positions_to {A = A} {X = A} (λ x. x) (λ x. []) i 0 l)

  pub positions-parts : (r : List A) → all_positions A 0 c (i, l ++ r) ≡ positions_until ++ (positions_from {A = A} {X = A} (λ x. x) (λ x. []) i
      (length l) r ++ path_after A c)
  positions-parts r =
      let key : A → A = λ x. x in
      let f : A → List (Position A) = λ x. [] in
      let e : positions_from key f i 0 (l ++ r) ≡ positions_to key f i 0 l ++ positions_from key f i (length l) r =
      positions_from-append key f i 0 l r ∙ ap (λ n. positions_to key f i 0 l ++ positions_from key f i n r)
      (let q : 0 + length l ≡ length l = omega arith in q) in
      ap (λ z. path_before A c ++ (mark (address_before i) None ∷ (z ++ path_after A c))) e
      ∙ ap (λ z. path_before A c ++ (mark (address_before i) None ∷ z))
      (append_assoc (positions_to key f i 0 l) (positions_from key f i (length l) r) (path_after A c))
      ∙ sym (append_assoc (path_before A c) (mark (address_before i) None ∷ positions_to key f i 0 l)
      (positions_from key f i (length l) r ++ path_after A c))

  pub to-passed : passed positions_until ≡ length (items_before c) + length l
  to-passed =
      let a = passed-append (path_before A c) (mark (address_before i) None ∷ positions_to {A = A} {X = A} (λ x. x) (λ x. []) i 0 l) in
      let b = path-passed A 0 c in
      let d = passed-positions_to {A = A} {X = A} (λ x. x) (λ x. []) i 0 l in
      let s = singles A l in
      omega arith

  module _ (x : A) (r : List A) (expected : Option A) (b : Address) (q : ℕ) where
    -- an address at a smaller place occurs before the offset
    pub smaller-before : IsAt expected b (all_positions A 0 c (i, l ++ r)) q → q < length (items_before c) + length l
        → IsAt expected b positions_until q
    smaller-before s low =
        elim (in-cases expected b positions_until (positions_from {A = A} {X = A} (λ x. x) (λ x. []) i (length l) r ++ path_after A c) q
        (subst (λ z. IsAt expected b z q) (positions-parts r) s)) [
          | inl early ↦ early
          | inr later ↦ let n = later.is in let p = to-passed in absurd (omega arith)
        ]
