-- A node with an item too many in two parts: what each part holds.
use Rattle.btree_laws.proofs.Common.{◌≡◌, ◌≢◌, ◌<◌, ◌≤◌, ◌++◌, ◌∷◌, [], ◌∙◌, ◌+◌, ℕ, zero, suc, inl, inr, List, length, map, Option, Some, refl, sym, ap, subst, arith, append_assoc, length-append, flat_map-append, length-map, map-append, AllByRecursion, option_map, with_parent, NodeMap, View, children_of, internal, leaf, one, times_listed, total, Holds, IsFilled, IsFilledBelow, Subtree, count_at, id_of, items_under, later_items, most_at, times_under, view_at, Path, parent_above, times_used, IsFocus}
use Rattle.btree_view.specs.Edits.{IsSplit}
use Rattle.btree_laws.specs.Step.{Splits}
use Rattle.btree_laws.proofs.LookUp.Descent.{map-parts}
use Rattle.btree_laws.proofs.Paths.Frames.{AllByRecursion-left, AllByRecursion-right, eachs-same, holds-same, one-self, one-zero, total-append}
use Rattle.btree_laws.proofs.Trees.Numbers.{same-or, used-low, used-mapped, zero-or}

pub append_same : {X : Type 0} (l r l' r' : List X) → l ++ r ≡ l' ++ r' → length l ≡ length l' → (l ≡ l') × (r ≡ r')
append_same [] r [] r' e n = (refl, e)
append_same [] r (y ∷ l') r' e n = absurd (omega arith)
append_same (x ∷ l) r [] r' e n = absurd (omega arith)
append_same (x ∷ l) r (y ∷ l') r' e n =
    let h : x ≡ y = cc in
    let t : l ++ r ≡ l' ++ r' = cc in
    let q = append_same l r l' r' t (omega arith) in
    (let p = q.0 in cc, q.1)

-- the children of an internal node
abbrev pub child_ids : {A : Type 0} → ℕ → List (A × ℕ) → List ℕ
child_ids first branches = first ∷ map (λ b. b.1) branches

pub record AdoptsBeside {A : Type 0} (node_at new : NodeMap A) (i j : ℕ) (cs : List ℕ) : Type 0 where
  pub kept : (n : ℕ) → n ≢ i → n ≢ j → times_listed n cs ≡ 0 → new n ≡ node_at n
  pub moved : (n : ℕ) → n ≢ i → n ≢ j → 0 < times_listed n cs → new n ≡ option_map (with_parent (Some j)) (node_at n)

-- the two parts of a node that is split, by its kind
abbrev pub IsSplitOf : {A : Type 0} → NodeMap A → NodeMap A → ℕ → ℕ → A → View A → Type 0
IsSplitOf {A} node_at new i j x (leaf p xs) =
    (l : List A) × (r : List A) × (xs ≡ l ++ x ∷ r) × (length l ≡ 4)
    × (new i ≡ Some (leaf p l)) × (new j ≡ Some (leaf p r)) × ((n : ℕ) → n ≢ i → n ≢ j → new n ≡ node_at n)
IsSplitOf {A} node_at new i j x (internal p first bs) =
    (l : List (A × ℕ)) × (u : ℕ) × (r : List (A × ℕ)) × (bs ≡ l ++ (x, u) ∷ r) × (length l ≡ 3)
    × (new i ≡ Some (internal p first l)) × (new j ≡ Some (internal p u r)) × AdoptsBeside node_at new i j (child_ids u r)

pub split-of : {A : Type 0} (node_at new : NodeMap A) (i j : ℕ) (x : A) (s : Splits node_at new i j x) (v : View A)
    → node_at i ≡ Some v → IsSplitOf node_at new i j x v
split-of {A} node_at new i j x s v e =
    by v (let h = s.here in let q : s.node ≡ v = cc in subst (λ u. IsSplit u x s.left s.right) q s.parts)
  where
    by : (v : View A) → IsSplit v x s.left s.right → IsSplitOf node_at new i j x v
    by (leaf p xs) q =
        let none : (n : ℕ) → times_listed n (children_of s.right) ≡ 0 = λ n. rw q.5 refl in
        (q.0, q.1, q.2, q.3, s.at_left ∙ ap Some q.4, s.at_right ∙ ap Some q.5, λ n ni nj. s.kept n ni nj (none n))
    by (internal p first bs) q =
        let same : (n : ℕ) → times_listed n (children_of s.right) ≡ times_listed n (child_ids q.1 q.2) =
        λ n. ap (λ u. times_listed n (children_of u)) q.6 in (
          q.0,
          q.1,
          q.2,
          q.3,
          q.4,
          s.at_left ∙ ap Some q.5,
          s.at_right ∙ ap Some q.6,
          record {
            kept = λ n ni nj z. s.kept n ni nj (same n ∙ z);
            moved = λ n ni nj z. s.moved n ni nj (subst (λ k. 0 < k) (sym (same n)) z);
          },
        )

-- two adjacent siblings as one node, with the item between them
abbrev pub join : (A : Type 0) (h : ℕ) → Subtree A h → A → Subtree A h → Subtree A h
join A zero a x b = (a.0, a.1 ++ x ∷ b.1)
join A (suc h) a x b = (a.0, a.1, a.2 ++ (x, b.1) ∷ b.2)

-- a subtree in two parts, with x between
pub record IsCut (A : Type 0) (h : ℕ) (t : Subtree A h) (j : ℕ) (x : A) (a b : Subtree A h) : Type 0 where
  pub joined : t ≡ join A h a x b
  pub list : items_under A h t ≡ items_under A h a ++ x ∷ items_under A h b
  pub numbers : (n : ℕ) → times_under A h n t + one n j ≡ times_under A h n a + times_under A h n b
  pub left_id : id_of A h a ≡ id_of A h t
  pub right_id : id_of A h b ≡ j
  pub left_below : IsFilledBelow A h a
  pub right_below : IsFilledBelow A h b
  pub left_size : IsFilled 3 h (count_at A h a)
  pub right_count : count_at A h b ≡ 4
  -- 4 items stay in a leaf, 3 in an internal node
  pub left_count : count_at A h a + 5 ≡ suc (most_at h)

module _ (A : Type 0) where
  pub right-filled : (h : ℕ) (b : Subtree A h) → count_at A h b ≡ 4 → IsFilled 3 h (count_at A h b)
  right-filled zero b e = (omega arith, omega arith)
  right-filled (suc h) b e = (omega arith, omega arith)

  -- the numbers below the root of a subtree
  abbrev pub times_below : (h : ℕ) → ℕ → Subtree A h → ℕ
  times_below zero n t = 0
  times_below (suc h) n t = times_under A h n t.1 + total (λ b. times_under A h n b.1) t.2

  pub times-top : (h n : ℕ) (t : Subtree A h) → times_under A h n t ≡ one n (id_of A h t) + times_below h n t
  times-top zero n t = omega arith
  times-top (suc h) n t = refl

  -- a subtree whose root has a new parent
  pub reparent_children : (node_at new : NodeMap A) (h : ℕ) (p q : Option ℕ) (t : Subtree A h)
      → new (id_of A h t) ≡ option_map (with_parent q) (node_at (id_of A h t))
      → ((n : ℕ) → 0 < times_below h n t → new n ≡ node_at n) → Holds A node_at h p t → Holds A new h q t
  reparent_children node_at new zero p q t e same d = e ∙ rw d refl
  reparent_children node_at new (suc h) p q t e same d = (
    e ∙ rw d.0 refl,
    holds-same A node_at new h (Some t.0) t.1 (λ n m. same n (omega arith)) d.1,
    eachs-same A node_at new h (Some t.0) t.2 (λ n m. same n (omega arith)) d.2,
  )

  -- the roots of the children, and the rest of them
  pub total-top : (h n : ℕ) (bs : List (A × Subtree A h)) → total (λ b. times_under A h n b.1) bs
      ≡ times_listed n (map (λ (b : A × ℕ). b.1) (map (λ (b : A × Subtree A h). (b.0, id_of A h b.1)) bs)) + total
      (λ b. times_below h n b.1) bs
  total-top h n [] = omega arith
  total-top h n (b ∷ bs) = omega (arith, times-top h n b.1, total-top h n bs)

  module _ (node_at new : NodeMap A) where
    -- each of some children has the new parent
    pub reparents : (h i j : ℕ) (p : Option ℕ) (bs : List (A × Subtree A h))
        → ((n : ℕ) → 0 < times_listed n
        (map (λ (b : A × ℕ). b.1) (map (λ (b : A × Subtree A h). (b.0, id_of A h b.1)) bs)) → new n ≡ option_map
        (with_parent (Some j)) (node_at n))
        → ((n : ℕ) → 0 < total (λ b. times_below h n b.1) bs → new n ≡ node_at n)
        → AllByRecursion (λ b. Holds A node_at h p b.1) bs → AllByRecursion (λ b. Holds A new h (Some j) b.1) bs
    reparents h i j p [] moved same d = tt
    reparents h i j p (b ∷ bs) moved same d = (
      reparent_children node_at new h p (Some j) b.1 (moved (id_of A h b.1) (let s = one-self (id_of A h b.1) in omega arith))
          (λ n m. same n (omega arith)) d.0,
      reparents h i j p bs (λ n m. moved n (omega arith)) (λ n m. same n (omega arith)) d.1,
    )

    pub record Cut (h : ℕ) (p : Option ℕ) (t : Subtree A h) (j : ℕ) (x : A) : Type 0 where
      pub left : Subtree A h
      pub right : Subtree A h
      pub cut : IsCut A h t j x left right
      pub left_holds : Holds A new h p left
      pub right_holds : Holds A new h p right

    pub split-leaf : (p : Option ℕ) (t : Subtree A 0) (j : ℕ) (x : A) → length t.1 ≡ 9
        → IsSplitOf node_at new t.0 j x (leaf p t.1) → Cut 0 p t j x
    split-leaf p t j x nine s =
        record {
          left = (t.0, s.0);
          right = (j, s.1);
          cut = record {
            joined = ap (λ (z : List A). (t.0, z)) s.2;
            list = s.2;
            numbers = λ n. omega arith;
            left_id = refl;
            right_id = refl;
            left_below = tt;
            right_below = tt;
            left_size = let e = s.3 in (omega arith, omega arith);
            right_count = let e = s.3 in let q = ap length s.2 in let r = length-append s.0 (x ∷ s.1) in omega arith;
            left_count = let e = s.3 in omega arith;
          };
          left_holds = s.4;
          right_holds = s.5;
        }

    module _ (h i j : ℕ) (p : Option ℕ) (first : Subtree A h) (left : List (A × Subtree A h)) (x : A) (u : Subtree A h)
        (rest : List (A × Subtree A h)) where
      pub split-parts : ((n : ℕ) → times_under A (suc h) n (i, first, left ++ (x, u) ∷ rest) + one n j ≤ 1)
          → new i ≡ Some (internal p (id_of A h first) (map (λ b. (b.0, id_of A h b.1)) left))
          → new j ≡ Some (internal p (id_of A h u) (map (λ b. (b.0, id_of A h b.1)) rest))
          → AdoptsBeside node_at new i j (child_ids (id_of A h u) (map (λ b. (b.0, id_of A h b.1)) rest))
          → Holds A node_at (suc h) p (i, first, left ++ (x, u) ∷ rest)
          → Holds A new (suc h) p (i, first, left) × Holds A new (suc h) p (j, u, rest)
      split-parts apart ei ej ad d =
          let P : A × Subtree A h → Type 0 = λ b. Holds A node_at h (Some i) b.1 in
          let all : (n : ℕ) → one n
          i + (times_under A h n
          first + (total (λ b. times_under A h n b.1) left + ((one n (id_of A h u) + times_below h n u)
          + (times_listed n (map (λ (b : A × ℕ). b.1) (map (λ (b : A × Subtree A h). (b.0, id_of A h b.1)) rest)) + total
          (λ b. times_below h n b.1) rest)))) + one n j ≤ 1 =
          λ n. omega (
            arith,
            apart n,
            total-append (λ b. times_under A h n b.1) left ((x, u) ∷ rest),
            times-top h n u,
            total-top h n rest,
          ) in
          let keep : (n : ℕ) → one n i ≡ 0 → one n j ≡ 0
          → one n (id_of A h u) + times_listed n
          (map (λ (b : A × ℕ). b.1) (map (λ (b : A × Subtree A h). (b.0, id_of A h b.1)) rest)) ≡ 0
          → new n ≡ node_at n =
          λ n a b c. ad.kept n (one-zero n i a) (one-zero n j b) c in
          let move : (n : ℕ) → one n i ≡ 0 → one n j ≡ 0
          → 0 < one n (id_of A h u) + times_listed n
          (map (λ (b : A × ℕ). b.1) (map (λ (b : A × Subtree A h). (b.0, id_of A h b.1)) rest))
          → new n ≡ option_map (with_parent (Some j)) (node_at n) =
          λ n a b c. ad.moved n (one-zero n i a) (one-zero n j b) c in
          let r = AllByRecursion-right P left ((x, u) ∷ rest) d.2 in (
            (
              ei,
              holds-same A node_at new h (Some i) first
                  (λ n m. let q = all n in keep n (omega arith) (omega arith) (omega arith)) d.1,
              eachs-same A node_at new h (Some i) left
                  (λ n m. let q = all n in keep n (omega arith) (omega arith) (omega arith))
                  (AllByRecursion-left P left ((x, u) ∷ rest) d.2),
            ),
            (
              ej,
              reparent_children node_at new h (Some i) (Some j) u (let q = all (id_of A h u) in let s = one-self (id_of A h u) in
                  move (id_of A h u) (omega arith) (omega arith) (omega arith))
                  (λ n m. let q = all n in keep n (omega arith) (omega arith) (omega arith)) r.0,
              reparents h i j (Some i) rest (λ n m. let q = all n in move n (omega arith) (omega arith) (omega arith))
                  (λ n m. let q = all n in keep n (omega arith) (omega arith) (omega arith)) r.1,
            ),
          )

    pub split-inner : (h : ℕ) (p : Option ℕ) (t : Subtree A (suc h)) (j : ℕ) (x : A) → length t.2 ≡ 8
        → ((n : ℕ) → times_under A (suc h) n t + one n j ≤ 1) → IsFilledBelow A (suc h) t
        → Holds A node_at (suc h) p t → IsSplitOf node_at new t.0 j x (view_at A (suc h) p t) → Cut (suc h) p t j x
    split-inner h p t j x eight apart below d s =
        let q = map-parts (λ (b : A × Subtree A h). (b.0, id_of A h b.1)) t.2 s.0 ((x, s.1) ∷ s.2) s.3 in
        at q.left q.right q.is q.first q.second
      where
        at : (left right : List (A × Subtree A h)) → t.2 ≡ left ++ right
            → map (λ (b : A × Subtree A h). (b.0, id_of A h b.1)) left ≡ s.0
            → map (λ (b : A × Subtree A h). (b.0, id_of A h b.1)) right ≡ (x, s.1) ∷ s.2 → Cut (suc h) p t j x
        at left [] is e1 e2 = absurd (cc)
        at left ((y, u) ∷ rest) is e1 e2 =
            let M : A × Subtree A h → A × ℕ = λ b. (b.0, id_of A h b.1) in
            let e3 : M (y, u) ≡ (x, s.1) = cc in
            let yx : y ≡ x = ap (λ (b : A × ℕ). b.0) e3 in
            let us : id_of A h u ≡ s.1 = ap (λ (b : A × ℕ). b.1) e3 in
            let rs : map (λ (b : A × Subtree A h). (b.0, id_of A h b.1)) rest ≡ s.2 = cc in
            let is' : t.2 ≡ left ++ (x, u) ∷ rest = is ∙ ap (λ z. left ++ (z, u) ∷ rest) yx in
            let ei : new t.0 ≡ Some
            (internal p (id_of A h t.1) (map (λ (b : A × Subtree A h). (b.0, id_of A h b.1)) left)) =
            rw e1 s.5 in
            let ej : new j ≡ Some (internal p (id_of A h u) (map (λ (b : A × Subtree A h). (b.0, id_of A h b.1)) rest)) =
            rw (us, rs) s.6 in
            let ad : AdoptsBeside node_at new t.0 j
            (child_ids (id_of A h u) (map (λ (b : A × Subtree A h). (b.0, id_of A h b.1)) rest)) =
            rw (us, rs) s.7 in
            let ap' : (n : ℕ) → times_under A (suc h) n (t.0, t.1, left ++ (x, u) ∷ rest) + one n j ≤ 1 =
            subst (λ (bs : List (A × Subtree A h)). (n : ℕ) → times_under A (suc h) n (t.0, t.1, bs) + one n j ≤ 1) is'
            apart in
            let d' : Holds A node_at (suc h) p (t.0, t.1, left ++ (x, u) ∷ rest) =
            subst (λ (bs : List (A × Subtree A h)). Holds A node_at (suc h) p (t.0, t.1, bs)) is' d in
            let b' : IsFilledBelow A (suc h) (t.0, t.1, left ++ (x, u) ∷ rest) =
            subst (λ (bs : List (A × Subtree A h)). IsFilledBelow A (suc h) (t.0, t.1, bs)) is' below in
            let F : A × Subtree A h → Type 0 = λ b. IsFilled 3 h (count_at A h b.1) × IsFilledBelow A h b.1 in
            let fr = AllByRecursion-right F left ((x, u) ∷ rest) b'.2 in
            let parts = split-parts h t.0 j p t.1 left x u rest ap' ei ej ad d' in
            let n1 : length left ≡ 3 =
            sym (length-map left (λ (b : A × Subtree A h). (b.0, id_of A h b.1))) ∙ (ap length e1 ∙ s.4) in
            let n2 : length t.2 ≡ length left + suc (length rest) =
            ap length is' ∙ length-append left ((x, u) ∷ rest) in
            record {
              left = (t.0, t.1, left);
              right = (j, u, rest);
              cut = record {
                joined = ap (λ (bs : List (A × Subtree A h)). (t.0, t.1, bs)) is';
                list = ap (λ (bs : List (A × Subtree A h)). items_under A h t.1 ++ later_items A h bs) is'
                    ∙ simp (flat_map-append, append_assoc);
                numbers = λ n. let e : total (λ b. times_under A h n b.1) t.2 ≡ total (λ b. times_under A h n b.1)
                    (left ++ (x, u) ∷ rest) = ap (λ (bs : List (A × Subtree A h)). total (λ b. times_under A h n b.1) bs)
                    is' in
                    omega (arith, total-append (λ b. times_under A h n b.1) left ((x, u) ∷ rest));
                left_id = refl;
                right_id = refl;
                left_below = (b'.0, b'.1, AllByRecursion-left F left ((x, u) ∷ rest) b'.2);
                right_below = (fr.0.0, fr.0.1, fr.1);
                left_size = (omega arith, omega arith);
                right_count = omega arith;
                left_count = omega arith;
              };
              left_holds = parts.0;
              right_holds = parts.1;
            }

  module _ (node_at new : NodeMap A) (i j : ℕ) (x : A) where
    reparents-used : (cs : List ℕ) → AdoptsBeside node_at new i j cs → (n : ℕ) → n ≢ i → n ≢ j
        → times_used (new n) ≡ times_used (node_at n)
    reparents-used cs ad n ni nj =
        elim (zero-or (times_listed n cs)) [
          | inl z ↦ ap times_used (ad.kept n ni nj z)
          | inr m ↦ ap times_used (ad.moved n ni nj m) ∙ used-mapped (with_parent (Some j)) (node_at n)
        ]

    pub split-used : (v : View A) → IsSplitOf node_at new i j x v → times_used (node_at i) ≡ 1 → times_used (node_at j) ≡ 1
        → (n : ℕ) → times_used (new n) ≡ times_used (node_at n)
    split-used (leaf p xs) s hi hj n =
        elim (same-or n i) [
          | inl e ↦ rw (e, s.4, hi) refl
          | inr ni ↦ elim (same-or n j) [ inl e ↦ rw (e, s.5, hj) refl | inr nj ↦ ap times_used (s.6 n ni nj) ]
        ]
    split-used (internal p first bs) s hi hj n =
        elim (same-or n i) [
          | inl e ↦ rw (e, s.5, hi) refl
          | inr ni ↦ elim (same-or n j) [
            | inl e ↦ rw (e, s.6, hj) refl
            | inr nj ↦ reparents-used
                (child_ids s.1 s.2) s.7 n ni nj
          ]
        ]

  -- what a split of the node at the hole leaves
  pub record Parted (node_at mid : NodeMap A) (h : ℕ) (p : Option ℕ) (t : Subtree A h) (j : ℕ) (x : A) : Type 0 where
    pub cut : Cut node_at mid h p t j x
    pub kept : (n : ℕ) → times_under A h n t ≡ 0 → n ≢ j → mid n ≡ node_at n
    pub as_used : (n : ℕ) → times_used (mid n) ≡ times_used (node_at n)

  module _ (node_at mid : NodeMap A) (spare : List ℕ) (root : ℕ) (xs : List A) where
    pub parted : (h : ℕ) (c : Path A h) (t : Subtree A h) (j : ℕ) (x : A) → IsFocus A node_at (j ∷ spare) root xs h c t
        → count_at A h t ≡ suc (most_at h)
        → IsSplitOf node_at mid (id_of A h t) j x (view_at A h (parent_above c) t)
        → Parted node_at mid h (parent_above c) t j x
    parted zero c t j x w n s =
        record {
          cut = split-leaf node_at mid (parent_above c) t j x n s;
          kept = λ m z nj. s.6 m (one-zero m t.0 (omega arith)) nj;
          as_used = split-used node_at mid t.0 j x (leaf (parent_above c) t.1) s (rw w.inner refl)
              (let o = w.once j in let a = used-low (node_at j) in let b = one-self j in omega arith);
        }
    parted (suc h) c t j x w n s =
        let apart : (m : ℕ) → times_under A (suc h) m t + one m j ≤ 1 = λ m. let o = w.once m in
        let a = used-low (node_at m) in omega arith in
        record {
          cut = split-inner node_at mid h (parent_above c) t j x n apart w.below w.inner s;
          kept = λ m z nj. s.7.kept m (one-zero m t.0 (omega arith)) nj (not-child m z);
          as_used = split-used node_at mid t.0 j x (view_at A (suc h) (parent_above c) t) s (rw w.inner.0 refl)
              (let o = w.once j in let a = used-low (node_at j) in let b = one-self j in omega arith);
        }
      where
        not-child : (m : ℕ) → times_under A (suc h) m t ≡ 0 → times_listed m (child_ids s.1 s.2) ≡ 0
        not-child m z =
            let e : map (λ (b : A × ℕ). b.1) (map (λ (b : A × Subtree A h). (b.0, id_of A h b.1)) t.2) ≡ map
            (λ (b : A × ℕ). b.1) s.0 ++ s.1 ∷ map (λ (b : A × ℕ). b.1) s.2 =
            ap (map (λ (b : A × ℕ). b.1)) s.3 ∙ map-append (λ (b : A × ℕ). b.1) s.0 ((x, s.1) ∷ s.2) in
            let k : times_listed m
            (map (λ (b : A × ℕ). b.1) (map (λ (b : A × Subtree A h). (b.0, id_of A h b.1)) t.2)) ≡ times_listed m
            (map (λ (b : A × ℕ). b.1) s.0 ++ s.1 ∷ map (λ (b : A × ℕ). b.1) s.2) =
            ap (times_listed m) e in
            omega (
              arith,
              total-top h m t.2,
              total-append (λ i. one m i) (map (λ (b : A × ℕ). b.1) s.0)
                  (s.1 ∷ map (λ (b : A × ℕ). b.1) s.2),
            )
