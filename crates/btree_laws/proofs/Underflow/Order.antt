-- Which step fixes an underflow, and how many levels are above a node.
use Rattle.btree_laws.proofs.Common.{◌≡◌, ◌≢◌, ◌≤◌, ◌∙◌, ◌+◌, [], ℕ, zero, suc, List, length, Option, Some, None, sym, ap, subst, arith, same_Some, Address, NodeMap, View, parent_of, levels_above, levels_below, Subtree, id_of, view_at, MayUnderflowAt, Represents, Path, HoldsAbove, depth, frame_id, frame_view, parent_above, root_above, times_above, top, under, IsRooted, IsFocus}
use Rattle.btree_laws.proofs.Paths.Frames.{times_in-is, top-view}
use Rattle.btree_laws.proofs.Trees.Heights.{levels-is}
use Rattle.btree_laws.proofs.Trees.Numbers.{times-own, used-low}
use Rattle.btree_laws.proofs.Paths.Levels.{levels-rooted}
use Rattle.btree_laws.proofs.Trees.Sizes.{frame-parent, root-there, view-parent}
use Rattle.btree_laws.proofs.Trees.Subtrees.{subtree-of}
use Rattle.btree_laws.proofs.Paths.UnsizedFocus.{focus-unsized}

module _ {A : Type 0} where
  -- a root has one height
  pub one-height : (node_at : NodeMap A) (root : ℕ) (xs : List A) (h g : ℕ) → Represents node_at h None root xs
      → Represents node_at g None root xs → h ≡ g
  one-height node_at root xs h g s t =
      let a = subtree-of A node_at h None root xs s in
      let b = subtree-of A node_at g None root xs t in
      let most : ℕ = h + g in
      sym (levels-is A node_at h most None a.subtree (omega arith) a.holds)
      ∙ (ap (levels_below node_at most) (a.here ∙ sym b.here) ∙ levels-is A node_at g most None b.subtree (omega arith) b.holds)

  -- as many levels are above a node as its path has, or as may be counted
  levels-low : (node_at : NodeMap A) (h n : ℕ) (c : Path A h) (hole : ℕ) (v : View A) → node_at hole ≡ Some v
      → parent_of v ≡ parent_above c → HoldsAbove node_at c hole → levels_above node_at n hole ≤ depth c
  levels-low node_at h zero c hole v e p d = omega arith
  levels-low node_at h (suc n) top hole v e p d = rw (e, p) (omega arith)
  levels-low node_at h (suc n) (under f c) hole v e p d =
      rw (e, p) (let r = levels-low node_at (suc h) n c (frame_id f) (frame_view (parent_above c) f hole)
      d.0 (frame-parent A h (parent_above c) f hole) d.2 in omega arith)

module _ (A : Type 0) (node_at : NodeMap A) (root : ℕ) (xs : List A) (id : ℕ) (expected : Option A) (a : Address)
    (place freed bound : ℕ) (g : MayUnderflowAt A node_at root xs id expected a place freed bound) where
  -- at most as many levels are above the node as the root has below it
  pub underflow-levels : (is_right : (id : ℕ) → View A → Type 0) → IsRooted is_right node_at root xs → (height : ℕ)
      → Represents node_at height None root xs → levels_above node_at (length xs) id ≤ height
  underflow-levels is_right r height s =
      let w = g.focus.whole in
      let d = levels-rooted A node_at root xs is_right r g.focus.height g.focus.path g.focus.subtree
      (focus-unsized A node_at [] root xs g.focus.height g.focus.path g.focus.subtree w) in
      let e = one-height node_at root xs r.height height r.represents s in
      let l = levels-low node_at g.focus.height (length xs) g.focus.path (id_of A g.focus.height g.focus.subtree)
      (view_at A g.focus.height (parent_above g.focus.path) g.focus.subtree)
      (top-view A node_at g.focus.height (parent_above g.focus.path) g.focus.subtree w.inner)
      (view-parent A g.focus.height (parent_above g.focus.path) g.focus.subtree) w.above in
      let k : levels_above node_at (length xs) id ≤ depth g.focus.path =
      subst (λ i. levels_above node_at (length xs) i ≤ depth g.focus.path) g.focus.here l in
      omega arith

  module _ (v : View A) (e : node_at id ≡ Some v) where
    view-is : v ≡ view_at A g.focus.height (parent_above g.focus.path) g.focus.subtree
    view-is =
        let n : View A = view_at A g.focus.height (parent_above g.focus.path) g.focus.subtree in
        same_Some v n (sym e ∙ subst (λ i. node_at i ≡ Some n) g.focus.here
        (top-view A node_at g.focus.height (parent_above g.focus.path) g.focus.subtree g.focus.whole.inner))

    -- the node without a parent is the root
    pub underflow-root : parent_of v ≡ None → id ≡ root
    underflow-root up =
        at g.focus.height g.focus.path g.focus.subtree g.focus.here g.focus.whole (ap parent_of (sym view-is) ∙ up)
      where
        at : (h : ℕ) (c : Path A h) (t : Subtree A h) → id_of A h t ≡ id → IsFocus A node_at [] root xs h c t
            → parent_of (view_at A h (parent_above c) t) ≡ None → id ≡ root
        at h top t here w q = sym here ∙ w.root_is
        at h (under f c) t here w q = let p = view-parent A h (Some (frame_id f)) t in absurd (cc)

    -- a node with a parent is not the root
    pub underflow-apart : (p : ℕ) → parent_of v ≡ Some p → id ≢ root
    underflow-apart p up same =
        at g.focus.height g.focus.path g.focus.subtree g.focus.here g.focus.whole (ap parent_of (sym view-is) ∙ up)
      where
        at : (h : ℕ) (c : Path A h) (t : Subtree A h) → id_of A h t ≡ id → IsFocus A node_at [] root xs h c t
            → parent_of (view_at A h (parent_above c) t) ≡ Some p → ⊥
        at h top t here w q = let n = view-parent A h None t in absurd (cc)
        at h (under f c) t here w q =
            let r : ℕ = root_above c (frame_id f) in
            let there : 1 ≤ times_above r (under f c) =
            (let a = root-there A (suc h) c (frame_id f) in let b = times_in-is A h r f in omega arith) in
            let is : r ≡ id_of A h t = w.root_is ∙ (sym same ∙ sym here) in
            let o = w.once (id_of A h t) in
            let u = used-low (node_at (id_of A h t)) in
            let m = times-own A h t in
            let k : 1 ≤ times_above (id_of A h t) (under f c) = subst (λ n. 1 ≤ times_above n (under f c)) is there in
            omega arith
