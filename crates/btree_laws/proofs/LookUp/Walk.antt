-- A walk through a tree: down to a first leaf, and on to the next item above.
use Rattle.btree_laws.proofs.Common.{◌≡◌, ℕ, zero, suc, ◌+◌, ◌<◌, List, [], ◌∷◌, ◌++◌, length, map, Option, Some, refl, sym, ap, ◌∙◌, arith, append_assoc, append-nil, flat_map, AllByRecursion, leaf, internal, NodeMap, Represents, represented}
use Rattle.btree_laws.specs.Remaining.{remaining_in, remaining_above, IsUnder, AreRows}
use Rattle.btree_laws.proofs.Trees.Represented.{represented-is}

module _ {A : Type 0} (node_at : NodeMap A) (levels : ℕ) where
  -- of the rows, the last one added is passed first
  pub remaining-push : (rows : List (List (A × ℕ))) (row : List (A × ℕ)) → remaining_above node_at levels (rows ++ row ∷ []) ≡ remaining_in node_at levels row ++ remaining_above node_at levels rows
  remaining-push [] row = sym (append-nil (remaining_in node_at levels row))
  remaining-push (r ∷ rows) row = ap (λ l. l ++ remaining_in node_at levels r) (remaining-push rows row) ∙ append_assoc (remaining_in node_at levels row) (remaining_above node_at levels rows) (remaining_in node_at levels r)

  -- a row whose children are one level further down may follow the rows of a walk
  pub rows-push : (depth : ℕ) (rows : List (List (A × ℕ))) (row : List (A × ℕ)) → AreRows node_at levels depth rows
      → AllByRecursion (λ (b : A × ℕ). IsUnder node_at levels (suc (depth + length rows)) b.1) row → AreRows node_at levels depth (rows ++ row ∷ [])
  rows-push depth [] row are all = let z : depth + 0 ≡ depth = omega arith in (rw (sym z) all, tt)
  rows-push depth (r ∷ rows) row are all = let s : suc depth + length rows ≡ depth + suc (length rows) = omega arith in (are.0, rows-push (suc depth) rows row are.1 (rw s all))

  pub record Lowest (depth : ℕ) (rows : List (List (A × ℕ))) (row : List (A × ℕ)) : Type 0 where
    pub above : AreRows node_at levels depth rows
    pub under : AllByRecursion (λ (b : A × ℕ). IsUnder node_at levels (suc (depth + length rows)) b.1) row

  -- the rows of a walk without the last one are the rows of a walk
  pub rows-pop : (depth : ℕ) (rows : List (List (A × ℕ))) (row : List (A × ℕ)) → AreRows node_at levels depth (rows ++ row ∷ []) → Lowest depth rows row
  rows-pop depth [] row are = let z : depth + 0 ≡ depth = omega arith in record { above = tt; under = rw z are.0 }
  rows-pop depth (r ∷ rows) row are =
      let s : depth + suc (length rows) ≡ suc depth + length rows = omega arith in
      let low = rows-pop (suc depth) rows row are.1 in
      record { above = (are.0, low.above); under = rw s low.under }

  -- a leaf represents its items
  pub under-leaf : (depth id : ℕ) (p : Option ℕ) (ys : List A) → IsUnder node_at levels depth id → node_at id ≡ Some (leaf p ys) → represented node_at levels id ≡ ys
  under-leaf depth id p ys u e = at u.height u.parent u.list u.low u.room u.represents
    where
      at : (height : ℕ) (parent : Option ℕ) (xs : List A) → height < levels → depth + height < 32 → Represents node_at height parent id xs → represented node_at levels id ≡ ys
      at zero parent xs low room h = let same : xs ≡ ys = cc in represented-is node_at zero levels parent id xs (omega arith) h ∙ same
      at (suc height) parent xs low room h = let was = h.3 in absurd (cc)

  -- an internal node represents the list of its first child, and then its row
  pub record Inside (depth id first : ℕ) (row : List (A × ℕ)) : Type 0 where
    pub first_under : IsUnder node_at levels (suc depth) first
    pub row_under : AllByRecursion (λ (b : A × ℕ). IsUnder node_at levels (suc depth) b.1) row
    pub list : represented node_at levels id ≡ represented node_at levels first ++ remaining_in node_at levels row

  module _ (depth height id : ℕ) (low : height < levels) (room : suc depth + height < 32) where
    abbrev row_of : List (A × ℕ × List A) → List (A × ℕ)
    row_of rest = map {B = A × ℕ} (λ r. (r.0, r.1)) rest

    node_positions-under : (rest : List (A × ℕ × List A)) → AllByRecursion (λ r. Represents node_at height (Some id) r.1 r.2) rest → AllByRecursion (λ (b : A × ℕ). IsUnder node_at levels (suc depth) b.1) (row_of rest)
    node_positions-under [] all = tt
    node_positions-under (r ∷ rest) all = (record { height = height; parent = Some id; list = r.2; represents = all.0; low = low; room = room }, node_positions-under rest all.1)

    node_positions-left : (rest : List (A × ℕ × List A)) → AllByRecursion (λ r. Represents node_at height (Some id) r.1 r.2) rest → remaining_in node_at levels (row_of rest) ≡ flat_map (λ r. r.0 ∷ r.2) rest
    node_positions-left [] all = refl
    node_positions-left (r ∷ rest) all =
        let here = represented-is node_at height levels (Some id) r.1 r.2 (omega arith) all.0 in
        let later = node_positions-left rest all.1 in
        rw (here, later) refl

  -- what is under an internal node is what is under its first child and in its row
  pub under-internal : (depth id : ℕ) (p : Option ℕ) (first : ℕ) (row : List (A × ℕ)) → IsUnder node_at levels depth id → node_at id ≡ Some (internal p first row) → Inside depth id first row
  under-internal depth id p first row u e = at u.height u.parent u.list u.low u.room u.represents
    where
      at : (height : ℕ) (parent : Option ℕ) (xs : List A) → height < levels → depth + height < 32 → Represents node_at height parent id xs → Inside depth id first row
      at zero parent xs low room h = absurd (cc)
      at (suc height) parent xs low room h =
          let was = h.3 in
          let same_first : h.0 ≡ first = cc in
          let same_row : row_of depth height id (omega arith) (omega arith) h.2 ≡ row = cc in
          let lower : height < levels = omega arith in
          let below : suc depth + height < 32 = omega arith in
          let front = represented-is node_at height levels (Some id) h.0 h.1 (omega arith) h.4 in
          let rest = node_positions-left depth height id lower below h.2 h.5 in
          let whole = represented-is node_at (suc height) levels parent id xs (omega arith) h in
          rw (← same_first, ← same_row) record {
            first_under = record { height = height; parent = Some id; list = h.1; represents = h.4; low = lower; room = below };
            row_under = node_positions-under depth height id lower below h.2 h.5;
            list = rw (front, rest) (whole ∙ h.6);
          }
