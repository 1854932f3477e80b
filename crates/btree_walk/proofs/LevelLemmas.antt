-- The children of a node have fewer levels below them than the node.
use Rattle.btree_walk.proofs.Common.{◌≡◌, ℕ, zero, suc, ◌<◌, ◌≤◌, List, [], ◌∷◌, map, Option, Some, refl, ap, arith, AllByRecursion, NodeMap, internal, levels_below, IsUnder}
use Rattle.btree_laws.specs.Represents.{Represents}

module _ {A : Type 0} (node_at : NodeMap A) where
  levels-are : (most height : ℕ) (parent : Option ℕ) (id : ℕ) (ys : List A) → height ≤ most → Represents node_at height parent id ys → levels_below node_at most id ≡ height
  levels-are zero zero parent id ys low r = refl
  levels-are zero (suc height) parent id ys low r = absurd (omega arith)
  levels-are (suc most) zero parent id ys low r = rw r refl
  levels-are (suc most) (suc height) parent id ys low r = rw r.3 (ap suc (levels-are most height (Some id) r.0 r.1 (omega arith) r.4))

  module _ (levels : ℕ) where
    pub record IsLower (id first : ℕ) (row : List (A × ℕ)) : Type 0 where
      pub first_lower : levels_below node_at levels first < levels_below node_at levels id
      pub row_lower : AllByRecursion (λ b. levels_below node_at levels b.1 < levels_below node_at levels id) row

    row-lower : (height id most : ℕ) (rest : List (A × ℕ × List A)) → height < levels → height < most → AllByRecursion (λ r. Represents node_at height (Some id) r.1 r.2) rest
        → AllByRecursion (λ (b : A × ℕ). levels_below node_at levels b.1 < most) (map {B = A × ℕ} (λ r. (r.0, r.1)) rest)
    row-lower height id most [] low less all = tt
    row-lower height id most (r ∷ rest) low less all =
        let is = levels-are levels height (Some id) r.1 r.2 (omega arith) all.0 in
        (omega arith, row-lower height id most rest low less all.1)

    pub children-lower : (depth id : ℕ) → IsUnder node_at levels depth id → (p : Option ℕ) (first : ℕ) (row : List (A × ℕ)) → node_at id ≡ Some (internal p first row) → IsLower id first row
    children-lower depth id u p first row e = at u.height u.parent u.list u.low u.represents
      where
        at : (height : ℕ) (parent : Option ℕ) (xs : List A) → height < levels → Represents node_at height parent id xs → IsLower id first row
        at zero parent xs low h = absurd (cc)
        at (suc height) parent xs low h =
            let was = h.3 in
            let same_first : h.0 ≡ first = cc in
            let same_row : map {B = A × ℕ} (λ r. (r.0, r.1)) h.2 ≡ row = cc in
            let here = levels-are levels (suc height) parent id xs (omega arith) h in
            let below = levels-are levels height (Some id) h.0 h.1 (omega arith) h.4 in
            rw (← same_first, ← same_row) record {
              first_lower = omega arith;
              row_lower = row-lower height id (levels_below node_at levels id) h.2 (omega arith) (omega arith) h.5;
            }
