-- The list that a tree represents, as a function of its nodes.
use Rattle.btree_laws.proofs.Common.{◌≡◌, ℕ, zero, suc, ◌<◌, List, [], ◌∷◌, ◌++◌, length, map, Option, Some, refl, sym, ap, arith, length-append, flat_map, AllByRecursion, View, leaf, NodeMap, size_of, Represents, represented}

module _ {A : Type 0} (node_at : NodeMap A) where
  represented-rest : (height levels : ℕ) (parent : Option ℕ)
      → ((id : ℕ) (ys : List A) → Represents node_at height parent id ys → represented node_at levels id ≡ ys)
      → (rest : List (A × ℕ × List A)) → AllByRecursion (λ r. Represents node_at height parent r.1 r.2) rest
      → flat_map (λ b. b.0 ∷ represented node_at levels b.1) (map {B = A × ℕ} (λ r. (r.0, r.1)) rest) ≡ flat_map (λ r. r.0 ∷ r.2) rest
  represented-rest height levels parent each [] all = refl
  represented-rest height levels parent each (r ∷ rest) all =
      let here = each r.1 r.2 all.0 in
      let later = represented-rest height levels parent each rest all.1 in
      rw (here, later) refl

  -- with one level more than the height, the nodes represent the list of the tree
  pub represented-is : (height levels : ℕ) (parent : Option ℕ) (id : ℕ) (xs : List A) → height < levels → Represents node_at height parent id xs → represented node_at levels id ≡ xs
  represented-is height zero parent id xs low h = absurd (omega arith)
  represented-is zero (suc levels) parent id xs low h = rw h refl
  represented-is (suc height) (suc levels) parent id xs low h =
      let front = represented-is height levels (Some id) h.0 h.1 (omega arith) h.4 in
      let rest = represented-rest height levels (Some id) (λ i ys s. represented-is height levels (Some id) i ys (omega arith) s) h.2 h.5 in
      rw (h.3, front, rest) (sym h.6)

  -- if each node has an item, a tree has more items than levels above its leaves
  pub height_below : (height : ℕ) (parent : Option ℕ) (id : ℕ) (xs : List A)
      → ((i : ℕ) (node : View A) → node_at i ≡ Some node → 0 < size_of node) → Represents node_at height parent id xs → height < length xs
  height_below zero parent id xs filled h = filled id (leaf parent xs) h
  height_below (suc height) parent id xs filled h =
      let front = height_below height (Some id) h.0 h.1 filled h.4 in
      let some = filled id _ h.3 in
      let long = ap length h.6 in
      more h.2 some long front
    where
      more : (rest : List (A × ℕ × List A)) → 0 < length (map {B = A} (λ b. b.0) (map {B = A × ℕ} (λ r. (r.0, r.1)) rest))
          → length xs ≡ length (h.1 ++ flat_map (λ r. r.0 ∷ r.2) rest) → height < length h.1 → suc height < length xs
      more [] some long front = absurd (omega arith)
      more (r ∷ rest) some long front = omega (arith, length-append h.1 (flat_map (λ (r : A × ℕ × List A). r.0 ∷ r.2) (r ∷ rest)), length-append (r.0 ∷ r.2) (flat_map (λ (r : A × ℕ × List A). r.0 ∷ r.2) rest))
