-- The back and front addresses at which the positions of a tree, and the parts before and after a hole, begin and end.
use Rattle.btree_laws.proofs.Common.{◌≡◌, ◌<◌, ◌++◌, ◌∷◌, ◌∙◌, ◌+◌, [], ℕ, zero, suc, Bool, List, length, map, Option, Some, None, refl, sym, ap, subst, arith, append_assoc, append-nil, length-append, AllByRecursion, Address, NodeMap, leaf, first_leaf, last_item, slot_before, Holds, Subtree, count_at, id_of, Position, branch_key, branch_positions, address_before, mark, address_at, positions_from, positions_to, positions}
use Rattle.btree_laws.specs.Addresses.{first_leaf_in, last_child, last_item_in, last_leaf, last_leaf_in}
use Rattle.btree_laws.proofs.AddressLists.OfPositions.{keep_back, keep_front}
use Rattle.btree_laws.proofs.LookUp.Descent.{snoc}
use Rattle.btree_laws.proofs.Paths.Frames.{AllByRecursion-right}
use Rattle.btree_laws.proofs.AddressLists.Kept.{kept, kept-append}
use Rattle.btree_laws.proofs.Places.Lists.{positions_from-append, positions_from-end}

-- a list begins with an address, or ends with it
pub record Begins (a : Address) (list : List Address) : Type 0 where
  pub rest : List Address
  pub is : list ≡ a ∷ rest

pub record Ends (a : Address) (list : List Address) : Type 0 where
  pub front : List Address
  pub is : list ≡ front ++ a ∷ []

pub begins-more : (a : Address) (list more : List Address) → Begins a list → Begins a (list ++ more)
begins-more a list more b = record { rest = b.rest ++ more; is = ap (λ l. l ++ more) b.is }

pub ends-more : (a : Address) (list more : List Address) → Ends a more → Ends a (list ++ more)
ends-more a list more e =
    record { front = list ++ e.front; is = ap (λ l. list ++ l) e.is ∙ sym (append_assoc list e.front (a ∷ [])) }

module _ {A : Type 0} (keep : Address → Option A → Bool) where
  kept-begins : (a : Address) (ts ss : List (Position A)) → Begins a (kept keep ts) → Begins a (kept keep (ts ++ ss))
  kept-begins a ts ss b = subst (λ l. Begins a l) (sym (kept-append keep ts ss)) (begins-more a (kept keep ts) (kept keep ss) b)

  kept-ends : (a : Address) (ts ss : List (Position A)) → Ends a (kept keep ss) → Ends a (kept keep (ts ++ ss))
  kept-ends a ts ss e = subst (λ l. Ends a l) (sym (kept-append keep ts ss)) (ends-more a (kept keep ts) (kept keep ss) e)

module _ {A X : Type 0} (key : X → A) (below : X → List (Position A)) (id : ℕ) where
  pub node_positions-begins : (offset : ℕ) (xs : List X) → Begins (address_at id offset) (kept keep_back (positions_from key below id offset xs))
  node_positions-begins offset [] = record { rest = []; is = refl }
  node_positions-begins offset (x ∷ xs) =
      record { rest = kept keep_back (below x ++ positions_from key below id (suc offset) xs); is = refl }

  pub node_positions-begins-front : (offset : ℕ) (xs : List X) → 0 < length xs → Begins (address_at id offset) (kept keep_front (positions_from key below id offset xs))
  node_positions-begins-front offset [] l = absurd (omega arith)
  node_positions-begins-front offset (x ∷ xs) l =
      record { rest = kept keep_front (below x ++ positions_from key below id (suc offset) xs); is = refl }

  pub node_positions-ends : (offset : ℕ) (xs : List X) → Ends (address_at id (offset + length xs)) (kept keep_back (positions_from key below id offset xs))
  node_positions-ends offset xs =
      subst (λ ts. Ends (address_at id (offset + length xs)) (kept keep_back ts)) (sym (positions_from-end key below id offset xs))
      (kept-ends keep_back (address_at id (offset + length xs)) (positions_to key below id offset xs)
      (mark (address_at id (offset + length xs)) None ∷ []) (record { front = []; is = refl }))

  -- after its last entry no front address is kept
  node_positions-last : (a : Address) (offset : ℕ) (front : List X) (x : X) → Ends a (address_at id (offset + length front) ∷ kept keep_front (below x))
      → Ends a (kept keep_front (positions_from key below id offset (front ++ x ∷ [])))
  node_positions-last a offset front x e =
      let o : ℕ = offset + length front in
      let tail : List (Position A) = mark (address_at id (suc o)) None ∷ [] in
      let last : kept keep_front (positions_from key below id o (x ∷ [])) ≡ address_at id o ∷ kept keep_front (below x) =
      ap (λ l. address_at id o ∷ l) (kept-append keep_front (below x) tail ∙ append-nil (kept keep_front (below x))) in
      subst (λ ts. Ends a (kept keep_front ts)) (sym (positions_from-append key below id offset front (x ∷ [])))
      (kept-ends keep_front a (positions_to key below id offset front) (positions_from key below id o (x ∷ []))
      (subst (λ l. Ends a l) (sym last) e))

module _ (A : Type 0) where
  abbrev first_of : (h : ℕ) → Subtree A h → ℕ
  first_of zero t = t.0
  first_of (suc h) t = first_of h t.1

  positions-begins : (h : ℕ) (t : Subtree A h) → Begins (address_at (first_of h t) 0) (kept keep_back (positions A h t))
  positions-begins zero t = node_positions-begins {A = A} {X = A} (λ x. x) (λ x. []) t.0 0 t.1
  positions-begins (suc h) t =
      kept-begins keep_back (address_at (first_of h t.1) 0) (positions A h t.1) (positions_from (branch_key A h) (branch_positions A h) t.0 0 t.2)
      (positions-begins h t.1)

  -- the positions of a subtree end past the last item of its root
  pub positions-ends : (h : ℕ) (t : Subtree A h) → Ends (address_at (id_of A h t) (count_at A h t)) (kept keep_back (positions A h t))
  positions-ends zero t =
      subst (λ n. Ends (address_at t.0 n) (kept keep_back (positions A 0 t))) (let q : 0 + length t.1 ≡ length t.1 = omega arith in q)
      (node_positions-ends {A = A} {X = A} (λ x. x) (λ x. []) t.0 0 t.1)
  positions-ends (suc h) t =
      subst (λ n. Ends (address_at t.0 n) (kept keep_back (positions A (suc h) t))) (let q : 0 + length t.2 ≡ length t.2 = omega arith in q)
      (kept-ends keep_back (address_at t.0 (0 + length t.2)) (positions A h t.1) (positions_from (branch_key A h) (branch_positions A h) t.0 0 t.2)
      (node_positions-ends (branch_key A h) (branch_positions A h) t.0 0 t.2))

  -- and begin at -1 of its root
  pub positions-begins-front : (h : ℕ) (t : Subtree A h) → Begins (address_before (id_of A h t)) (kept keep_front (positions A h t))
  positions-begins-front zero t = record { rest = kept keep_front (positions_from {A = A} {X = A} (λ x. x) (λ x. []) t.0 0 t.1); is = refl }
  positions-begins-front (suc h) t =
      record { rest = kept keep_front (positions A h t.1 ++ positions_from (branch_key A h) (branch_positions A h) t.0 0 t.2); is = refl }

  module _ (node_at : NodeMap A) where
    first-is : (h levels : ℕ) (p : Option ℕ) (t : Subtree A h) → h < levels → Holds A node_at h p t
        → first_leaf node_at levels (id_of A h t) ≡ first_of h t
    first-is h zero p t l d = absurd (omega arith)
    first-is zero (suc levels) p t l d = ap (first_leaf_in (first_leaf node_at levels) t.0) d
    first-is (suc h) (suc levels) p t l d =
        ap (first_leaf_in (first_leaf node_at levels) t.0) d.0 ∙ first-is h levels (Some t.0) t.1 (omega arith) d.1

    -- the back addresses begin in the leftmost leaf
    pub positions-first : (h levels : ℕ) (p : Option ℕ) (t : Subtree A h) → h < levels → Holds A node_at h p t
        → Begins (address_at (first_leaf node_at levels (id_of A h t)) 0) (kept keep_back (positions A h t))
    positions-first h levels p t l d =
        subst (λ n. Begins (address_at n 0) (kept keep_back (positions A h t))) (sym (first-is h levels p t l d)) (positions-begins h t)

    last-named : (h first : ℕ) (front : List (A × Subtree A h)) (b : A × Subtree A h)
        → last_child first (map {B = A × ℕ} (λ b. (b.0, id_of A h b.1)) (front ++ b ∷ [])) ≡ id_of A h b.1
    last-named h first [] b = refl
    last-named h first (f ∷ front) b = last-named h (id_of A h f.1) front b

    leaf-last : (id : ℕ) (p : Option ℕ) (xs : List A) → node_at id ≡ Some (leaf p xs)
        → Ends (last_item_in id (node_at id)) (kept keep_front (positions A 0 (id, xs)))
    leaf-last id p [] d =
        subst (λ a. Ends a (address_before id ∷ [])) (sym (ap (last_item_in id) d)) (record { front = []; is = refl })
    leaf-last id p (x ∷ xs) d =
        let s = snoc x xs in
        let n : length (x ∷ xs) ≡ suc (0 + length s.0) =
        let e = ap length s.2 in let l = length-append s.0 (s.1 ∷ []) in omega arith in
        subst (λ a. Ends a (kept keep_front (positions A 0 (id, x ∷ xs))))
        (sym (ap (last_item_in id) d ∙ ap (slot_before id) n))
        (subst (λ (l : List A). Ends (address_at id (0 + length s.0)) (kept keep_front (positions A 0 (id, l)))) (sym s.2)
        (ends-more (address_at id (0 + length s.0)) (address_before id ∷ [])
        (kept keep_front (positions_from {A = A} {X = A} (λ x. x) (λ x. []) id 0 (s.0 ++ s.1 ∷ [])))
        (node_positions-last {A = A} {X = A} (λ x. x) (λ x. []) id (address_at id (0 + length s.0)) 0 s.0 s.1 (record { front = []; is = refl }))))

    -- those of an internal node end like those of its last child
    module _ (h levels : ℕ) (p : Option ℕ)
        (each : (t : Subtree A h) → Holds A node_at h p t → Ends (last_item node_at levels (id_of A h t)) (kept keep_front (positions A h t))) where
      last-node_positions : (id : ℕ) (first : Subtree A h) (bs : List (A × Subtree A h)) → Holds A node_at h p first
          → AllByRecursion (λ b. Holds A node_at h p b.1) bs
          → Ends (last_item node_at levels (last_child (id_of A h first) (map {B = A × ℕ} (λ b. (b.0, id_of A h b.1)) bs)))
          (kept keep_front (positions A (suc h) (id, first, bs)))
      last-node_positions id first [] d e =
          let a : Address = last_item node_at levels (id_of A h first) in
          ends-more a (address_before id ∷ []) (kept keep_front (positions A h first ++ (mark (address_at id 0) None ∷ [])))
          (subst (λ z. Ends a z)
          (sym (kept-append keep_front (positions A h first) (mark (address_at id 0) None ∷ []) ∙ append-nil (kept keep_front (positions A h first))))
          (each first d))
      last-node_positions id first (b ∷ bs) d e =
          let s = snoc b bs in
          let e2 : AllByRecursion (λ (b : A × Subtree A h). Holds A node_at h p b.1) (s.0 ++ s.1 ∷ []) =
          subst (λ (l : List (A × Subtree A h)). AllByRecursion (λ (b : A × Subtree A h). Holds A node_at h p b.1) l) s.2 e in
          let u = AllByRecursion-right (λ (b : A × Subtree A h). Holds A node_at h p b.1) s.0 (s.1 ∷ []) e2 in
          let n : last_child (id_of A h first) (map {B = A × ℕ} (λ (b : A × Subtree A h). (b.0, id_of A h b.1)) (b ∷ bs)) ≡ id_of A h s.1.1 =
          ap (λ (l : List (A × Subtree A h)). last_child (id_of A h first) (map {B = A × ℕ} (λ (b : A × Subtree A h). (b.0, id_of A h b.1)) l)) s.2
          ∙ last-named h (id_of A h first) s.0 s.1 in
          let a : Address = last_item node_at levels (id_of A h s.1.1) in
          let node_positions : List (Position A) = positions_from (branch_key A h) (branch_positions A h) id 0 (s.0 ++ s.1 ∷ []) in
          subst (λ i. Ends (last_item node_at levels i) (kept keep_front (positions A (suc h) (id, first, b ∷ bs)))) (sym n)
          (subst (λ (l : List (A × Subtree A h)). Ends a (kept keep_front (positions A (suc h) (id, first, l)))) (sym s.2)
          (ends-more a (address_before id ∷ []) (kept keep_front (positions A h first ++ node_positions))
          (kept-ends keep_front a (positions A h first) node_positions
          (node_positions-last (branch_key A h) (branch_positions A h) id a 0 s.0 s.1
          (ends-more a (address_at id (0 + length s.0) ∷ []) (kept keep_front (positions A h s.1.1)) (each s.1.1 u.0))))))

    -- the front addresses end at the last item of the rightmost leaf
    pub positions-last : (h levels : ℕ) (p : Option ℕ) (t : Subtree A h) → h < levels → Holds A node_at h p t
        → Ends (last_item node_at levels (id_of A h t)) (kept keep_front (positions A h t))
    positions-last h zero p t l d = absurd (omega arith)
    positions-last zero (suc levels) p t l d =
        subst (λ n. Ends (last_item_in n (node_at n)) (kept keep_front (positions A 0 t)))
        (sym (ap (last_leaf_in (last_leaf node_at levels) t.0) d)) (leaf-last t.0 p t.1 d)
    positions-last (suc h) (suc levels) p t l d =
        subst (λ n. Ends (last_item_in n (node_at n)) (kept keep_front (positions A (suc h) t)))
        (sym (ap (last_leaf_in (last_leaf node_at levels) t.0) d.0))
        (last-node_positions h levels (Some t.0) (λ u e. positions-last h levels (Some t.0) u (omega arith) e) t.0 t.1 t.2 d.1 d.2)
