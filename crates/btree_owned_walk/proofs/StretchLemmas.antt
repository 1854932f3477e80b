-- The stretches that `nodes_left` reads are those of the addresses of the tree at the start.
use Rattle.btree_owned_walk.proofs.Common.{◌≡◌, ◌<◌, ℕ, zero, suc, ◌+◌, List, [], ◌∷◌, ◌++◌, length, map, Option, Some, None, refl, sym, ap, subst, ◌∙◌, arith, AllByRecursion, NodeMap, Subtree, id_of, items_under, later_items, view_at, TreeState, node_map}
use Rattle.std.proofs.Common.{append_assoc, append-nil, length-append}
use Rattle.std.specs.FinMap as finmap
use Rattle.std.specs.declared.cmp.Ordering.{Ordering}
use Rattle.btree_laws.specs.Focus.Subtree.{Holds}
use Rattle.btree_laws.specs.Place.{IsSubtreeAt}
use Rattle.btree_laws.specs.Represents.{represented}
use Rattle.btree_laws.specs.TreeState.{IsBTree, pairs_of}
use Rattle.btree_laws.specs.WellFormed.{IsFormed, IsRooted, IsSized}
use Rattle.btree_laws.proofs.Paths.FromRoot.{rooted-subtree}
use Rattle.btree_laws.proofs.Trees.States.{height_held}
use Rattle.btree_laws.proofs.Trees.Subtrees.{represents-of}
use Rattle.btree_owned_walk.specs.NodesLeft.{AreLaterStretches, AreStretches, AreStretchesIn, IsStretch}
use Rattle.btree_owned_walk.proofs.StartLemmas.{list-of}

module _ (A : Type 0) (xs : List A) (node_at : NodeMap A) where
  stretch-of : (h : ℕ) (p : Option ℕ) (levels : ℕ) → h < levels → (start : ℕ) (front back : List A) (t : Subtree A h) → Holds A node_at h p t
      → start ≡ length front → xs ≡ front ++ items_under A h t ++ back → IsStretch xs node_at levels start (id_of A h t)
  stretch-of h p levels l start front back t d c e =
      let at : IsSubtreeAt node_at xs (id_of A h t) (items_under A h t) start = record {
        front = front;
        back = back;
        split = e;
        counted = c;
        subtree = record { height = h; parent = p; represents = represents-of A node_at h p t d };
      } in
      record {
        before = (items_under A h t, at);
        after = (items_under A h t, start, at, ap (λ ys. start + length ys) (list-of A node_at h p t d levels l));
      }

  later-stretches : (h : ℕ) (p : Option ℕ) (levels : ℕ) → h < levels
      → ((start : ℕ) (front back : List A) (t : Subtree A h) → Holds A node_at h p t → start ≡ length front
      → xs ≡ front ++ items_under A h t ++ back → AreStretches xs node_at levels start (id_of A h t))
      → (start : ℕ) (front back : List A) (bs : List (A × Subtree A h)) → AllByRecursion (λ b. Holds A node_at h p b.1) bs
      → start ≡ length front → xs ≡ front ++ later_items A h bs ++ back
      → AreLaterStretches xs node_at levels (AreStretches xs node_at levels) start (map {B = A × ℕ} (λ (b : A × Subtree A h). (b.0, id_of A h b.1)) bs)
  later-stretches h p levels l each start front back [] d c e = tt
  later-stretches h p levels l each start front back (b ∷ bs) d c e =
      let ys = items_under A h b.1 in
      let zs = later_items A h bs in
      let here = front ++ (b.0 ∷ []) in
      let two : front ++ (b.0 ∷ (ys ++ zs)) ++ back ≡ here ++ ys ++ zs ++ back =
      ap (λ r. r ++ back) (sym (append_assoc front (b.0 ∷ []) (ys ++ zs)) ∙ sym (append_assoc here ys zs)) in
      let one = append_assoc (here ++ ys) zs back in
      let after : start + 1 ≡ length here = omega (arith, c, length-append front (b.0 ∷ [])) in
      let size = ap length (list-of A node_at h p b.1 d.0 levels l) in
      let past : start + 1 + length (represented node_at levels (id_of A h b.1)) ≡ length (here ++ ys) =
      omega (arith, after, size, length-append here ys) in (
        each (start + 1) here (zs ++ back) b.1 d.0 after (e ∙ two ∙ one),
        later-stretches h p levels l each (start + 1 + length (represented node_at levels (id_of A h b.1))) (here ++ ys) back bs d.1 past (e ∙ two),
      )

  pub stretches : (h : ℕ) (p : Option ℕ) (levels : ℕ) → h < levels → (start : ℕ) (front back : List A) (t : Subtree A h) → Holds A node_at h p t
      → start ≡ length front → xs ≡ front ++ items_under A h t ++ back → AreStretches xs node_at levels start (id_of A h t)
  stretches h p zero l start front back t d c e = absurd (omega arith)
  stretches zero p (suc levels) l start front back t d c e =
      (stretch-of zero p (suc levels) l start front back t d c e, subst (AreStretchesIn xs node_at levels (AreStretches xs node_at levels) start) (sym d) tt)
  stretches (suc h) p (suc levels) l start front back t d c e =
      let low : h < levels = omega (arith, l) in
      let ys = items_under A h t.1 in
      let zs = later_items A h t.2 in
      let two : front ++ (ys ++ zs) ++ back ≡ front ++ ys ++ zs ++ back = ap (λ r. r ++ back) (sym (append_assoc front ys zs)) in
      let one = append_assoc (front ++ ys) zs back in
      let size = ap length (list-of A node_at h (Some t.0) t.1 d.1 levels low) in
      let past : start + length (represented node_at levels (id_of A h t.1)) ≡ length (front ++ ys) = omega (arith, c, size, length-append front ys) in
      let inner : AreStretchesIn xs node_at levels (AreStretches xs node_at levels) start (Some (view_at A (suc h) p t)) = (
        stretches h (Some t.0) levels low start front (zs ++ back) t.1 d.1 c (e ∙ two ∙ one),
        later-stretches h (Some t.0) levels low (stretches h (Some t.0) levels low) (start + length (represented node_at levels (id_of A h t.1))) (front ++ ys) back t.2 d.2 past (e ∙ two),
      ) in
      (stretch-of (suc h) p (suc levels) l start front back t d c e, subst (AreStretchesIn xs node_at levels (AreStretches xs node_at levels) start) (sym d.0) inner)

-- in a well formed tree the stretches of all nodes are those of their addresses
pub start-stretches : {K V : Type 0} (cmp : K → K → Ordering) (s : TreeState K V) → IsBTree cmp s → (root : ℕ) → s.root ≡ Some root
    → AreStretches (pairs_of s) (node_map s) (finmap.len s.nodes) 0 root
start-stretches {K} {V} cmp s well root e =
    let r : IsRooted (IsSized root) (node_map s) root (pairs_of s) = subst (λ o. IsFormed (node_map s) o (pairs_of s)) e well.formed in
    let t = rooted-subtree (K × V) (node_map s) root (pairs_of s) r in
    let deep = height_held s (IsSized root) root (pairs_of s) r in
    subst (AreStretches (pairs_of s) (node_map s) (finmap.len s.nodes) 0) t.at_root
    (stretches (K × V) (pairs_of s) (node_map s) r.height None (finmap.len s.nodes) deep 0 [] [] t.subtree t.holds refl
    (sym t.represents ∙ sym (append-nil (items_under (K × V) r.height t.subtree))))
