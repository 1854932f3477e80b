-- The levels above a node of a tree and those below it are together those of the tree.
use Rattle.btree_laws.proofs.Common.{◌≡◌, ◌+◌, ◌∙◌, ℕ, suc, List, [], None, sym, ap, subst, arith, NodeMap, View, levels_below, Subtree, Path, depth, fill, top, under, IsRooted, IsUnsizedFocus}
use Rattle.btree_laws.proofs.Trees.Heights.{levels-is}
use Rattle.btree_laws.proofs.Trees.Subtrees.{subtree-of}
use Rattle.btree_laws.proofs.Paths.UnsizedFocus.{unsized-up}

module _ (A : Type 0) (node_at : NodeMap A) (root : ℕ) (xs : List A) where
  -- `sum` is the number of levels above a node and below it
  record Levels (sum : ℕ) : Type 0 where
    subtree : Subtree A sum
    focused : IsUnsizedFocus A node_at [] root xs sum top subtree

  levels : (h : ℕ) (c : Path A h) (t : Subtree A h) → IsUnsizedFocus A node_at [] root xs h c t → Levels (depth c + h)
  levels h top t s =
      subst (λ n. Levels n) (let q : h ≡ 0 + h = omega arith in q) (record { subtree = t; focused = s })
  levels h (under f c) t s =
      subst (λ n. Levels n) (let q : depth c + suc h ≡ suc (depth c) + h = omega arith in q)
      (levels (suc h) c (fill f t) (unsized-up A node_at [] root xs h f c t s))

  -- the depth of a focus and the height of its subtree make the height of the tree
  pub levels-rooted : (is_right : (id : ℕ) → View A → Type 0) (r : IsRooted is_right node_at root xs) (h : ℕ) (c : Path A h)
      (t : Subtree A h) → IsUnsizedFocus A node_at [] root xs h c t → depth c + h ≡ r.height
  levels-rooted is_right r h c t s =
      let a = levels h c t s in
      let b = subtree-of A node_at r.height None root xs r.represents in
      let most : ℕ = depth c + h + r.height in
      let l1 = levels-is A node_at (depth c + h) most None a.subtree (omega arith) a.focused.inner in
      let l2 = levels-is A node_at r.height most None b.subtree (omega arith) b.holds in
      sym l1 ∙ (ap (levels_below node_at most) (a.focused.root_is ∙ sym b.here) ∙ l2)
