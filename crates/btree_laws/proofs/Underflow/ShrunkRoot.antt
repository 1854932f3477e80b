-- A root without items is freed: its only child becomes the root, or the tree is empty.
use Rattle.btree_laws.proofs.Common.{◌≡◌, ◌≢◌, ◌≤◌, [], ◌∙◌, ◌+◌, ℕ, suc, inl, inr, List, Some, None, refl, sym, ap, subst, arith, append-nil, option_map, with_parent, NodeMap, children_of, ShrinksRoot, one, Subtree, id_of, RemovesNode, top, times_used, IsFocus, same_Some}
use Rattle.btree_laws.proofs.Paths.Frames.{one-other, one-self, one-zero}
use Rattle.btree_laws.proofs.Trees.Numbers.{same-or, used-low, used-mapped, used-none}
use Rattle.btree_laws.proofs.Splits.TwoParts.{reparent_children, times-top, times_below}
use Rattle.btree_laws.proofs.LookUp.Descent.{cons-parts}

module _ (A : Type 0) (node_at new : NodeMap A) (xs : List A) (n : ℕ) where
  module _ (h : ℕ) (u : Subtree A h) (w : IsFocus A node_at [] n xs (suc h) top (n, u, [])) (child : ℕ)
      (r : ShrinksRoot node_at new n child) where
    pub child-is-only : child ≡ id_of A h u
    child-is-only =
        (cons-parts {X = ℕ} (sym r.only ∙ ap children_of (same_Some r.node _ (sym r.at_root ∙ w.inner.0)))).0

    sum : (m : ℕ) → one m n + (one m (id_of A h u) + times_below A h m u) ≤ 1
    sum m = let o = w.once m in let k = used-low (node_at m) in let t = times-top A h m u in omega arith

    kept : (m : ℕ) → m ≢ n → m ≢ id_of A h u → new m ≡ node_at m
    kept m a b = r.kept m a (λ e. b (e ∙ child-is-only))

    here : new (id_of A h u) ≡ option_map (with_parent None) (node_at (id_of A h u))
    here = subst (λ i. new i ≡ option_map (with_parent None) (node_at i)) child-is-only r.new_child

    pub released : IsFocus A new [] (id_of A h u) xs h top u
    released =
        record {
          above = tt;
          inner = reparent_children A node_at new h (Some n) None u here
              (λ m p. let q = sum m in kept m (one-zero m n (omega arith)) (one-zero m (id_of A h u) (omega arith)))
              w.inner.1;
          once = λ m.
              elim (same-or m n) [
                | inl e ↦
                    let g : times_used (new m) ≡ 0 = rw (e, r.removed) refl in
                    let o : one m n ≡ 1 = subst (λ z. one m z ≡ 1) e (one-self m) in
                    let q = sum m in
                    let t = times-top A h m u in
                    omega arith
                | inr ne ↦
                    let k : times_used (new m) ≡ times_used (node_at m) =
                    elim (same-or m (id_of A h u)) [
                      | inl e ↦ rw (e, here) (used-mapped (with_parent None) (node_at (id_of A h u)))
                      | inr nu ↦ ap times_used (kept m ne nu)
                    ] in
                    let z = one-other m n ne in
                    let o = w.once m in
                    omega arith
              ];
          filled = tt;
          below = w.below.1;
          list = w.list ∙ simp append-nil;
          root_is = refl;
        }

  -- a leaf
  pub emptied : IsFocus A node_at [] n xs 0 top (n, []) → RemovesNode node_at new n → ((m : ℕ) → new m ≡ None) × (xs ≡ [])
  emptied w r = (
    λ m. elim (same-or m n) [
      | inl e ↦ rw e r.here
      | inr ne ↦ r.others m ne
          ∙ used-none (node_at m) (let o = w.once m in let z = one-other m n ne in let k : times_used (node_at m) ≡ 0 =
          omega arith in k)
    ],
    w.list,
  )
