-- Where the items of a node's subtree are in the list of the tree.
use Rattle.btree_laws.proofs.Common.{◌≡◌, ◌⊎◌, ℕ, zero, suc, ◌+◌, ◌<◌, List, [], ◌∷◌, ◌++◌, length, map, Option, Some, refl, sym, ap, subst, ◌∙◌, inl, inr, arith, append_assoc, append-nil, AllByRecursion, flat_map, cases_eq, nat_tests, NodeMap, Represents, numbers_under, IsSubtreeAt, times_listed}
use Rattle.btree_laws.proofs.Trees.Numbers.{listed-append}
use Rattle.btree_laws.proofs.Paths.Frames.{one-other}

module _ {A : Type 0} (node_at : NodeMap A) where
  pub record HasSubtreeAt (xs : List A) (id : ℕ) : Type 0 where
    pub ys : List A
    pub before : ℕ
    pub at : IsSubtreeAt node_at xs id ys before

  widen : (front xs back : List A) (id : ℕ) → HasSubtreeAt xs id → HasSubtreeAt (front ++ (xs ++ back)) id
  widen front xs back id s =
      let l : List A = s.at.front in
      let r : List A = s.at.back in
      record {
        ys = s.ys;
        before = length (front ++ l);
        at = record {
          front = front ++ l;
          back = r ++ back;
          subtree = s.at.subtree;
          split = ap (λ z. front ++ (z ++ back)) s.at.split ∙ subtree front l s.ys r back;
          counted = refl;
        };
      }
    where
      subtree : (a b c d e : List A) → a ++ ((b ++ c ++ d) ++ e) ≡ (a ++ b) ++ c ++ (d ++ e)
      subtree [] b c d e = append_assoc (b ++ c) d e
      subtree (x ∷ a) b c d e = ap (λ z. x ∷ z) (subtree a b c d e)

  split_sum : (a b : ℕ) → 0 < a + b → (0 < a) ⊎ (0 < b)
  split_sum zero b h = inr (omega arith)
  split_sum (suc a) b h = inl (omega arith)

  later : (h : ℕ) (p : Option ℕ) (id : ℕ)
      → ((n : ℕ) (ys : List A) → Represents node_at h p n ys → 0 < times_listed id (numbers_under node_at h n) → HasSubtreeAt ys id)
      → (rest : List (A × ℕ × List A)) → AllByRecursion (λ r. Represents node_at h p r.1 r.2) rest
      → 0 < times_listed id (flat_map (numbers_under node_at h) (map {B = ℕ} (λ b. b.1) (map {B = A × ℕ} (λ r. (r.0, r.1)) rest)))
      → HasSubtreeAt (flat_map (λ r. r.0 ∷ r.2) rest) id
  later h p id each [] all many = absurd (omega arith)
  later h p id each (r ∷ rest) all many =
      let others : List ℕ = flat_map (numbers_under node_at h) (map {B = ℕ} (λ b. b.1) (map {B = A × ℕ} (λ r. (r.0, r.1)) rest)) in
      let sum = listed-append id (numbers_under node_at h r.1) others in
      let long : List A = flat_map (λ (r : A × ℕ × List A). r.0 ∷ r.2) rest in
      elim (split_sum (times_listed id (numbers_under node_at h r.1)) (times_listed id others) (omega arith)) [
        | inl here ↦ widen (r.0 ∷ []) r.2 long id (each r.1 r.2 all.0 here)
        | inr there ↦ subst (λ l. HasSubtreeAt (r.0 ∷ (r.2 ++ l)) id) (append-nil long) (widen (r.0 ∷ r.2) long [] id (later h p id each rest all.1 there))
      ]

  -- a number under a node is that of a node whose items are among those of the node
  pub focused : (h : ℕ) (p : Option ℕ) (id n : ℕ) (ys : List A) → Represents node_at h p n ys → 0 < times_listed id (numbers_under node_at h n) → HasSubtreeAt ys id
  focused zero p id n ys s many =
      let same : n ≡ id = grind (arith, nat_tests) in
      record { ys = ys; before = 0; at = record { front = []; back = []; subtree = record { height = 0; parent = p; represents = rw (← same) s }; split = sym (append-nil ys); counted = refl } }
  focused (suc h) p id n ys s many = elim (cases_eq n id) [
    | inl same ↦ record { ys = ys; before = 0; at = record { front = []; back = []; subtree = record { height = suc h; parent = p; represents = subst (λ z. Represents node_at (suc h) p z ys) same s }; split = sym (append-nil ys); counted = refl } }
    | inr differs ↦
        let others : List ℕ = flat_map (numbers_under node_at h) (map {B = ℕ} (λ b. b.1) (map {B = A × ℕ} (λ r. (r.0, r.1)) s.2)) in
        let below : List ℕ = numbers_under node_at h s.0 ++ others in
        let all : numbers_under node_at (suc h) n ≡ n ∷ below = rw s.3 refl in
        let apart = one-other id n (λ e. differs (sym e)) in
        let sum = listed-append id (numbers_under node_at h s.0) others in
        let e = ap (times_listed id) all in
        let long : List A = flat_map (λ (r : A × ℕ × List A). r.0 ∷ r.2) s.2 in
        subst (λ l. HasSubtreeAt l id) (sym s.6)
        (elim (split_sum (times_listed id (numbers_under node_at h s.0)) (times_listed id others) (omega arith)) [
          | inl here ↦ widen [] s.1 long id (focused h (Some n) id s.0 s.1 s.4 here)
          | inr there ↦ subst (λ l. HasSubtreeAt (s.1 ++ l) id) (append-nil long) (widen s.1 long [] id (later h (Some n) id (λ m zs t k. focused h (Some n) id m zs t k) s.2 s.5 there))
        ])
  ]
