-- One step of an underflow fix upward: from a node to one of its siblings, or to the end.
use Rattle.btree_laws.proofs.Common.{◌≡◌, ◌≢◌, ◌<◌, ◌≤◌, ◌∷◌, [], ◌∙◌, ◌+◌, ℕ, zero, suc, inr, true, false, List, Option, Some, None, refl, sym, ap, subst, arith, append-nil, IsTrue, slice_get, Address, is_internal, NodeMap, View, children_of, parent_of, size_of, IsRepaired, ShrinksRoot, moved_by_shrink_root, IsPlace, IsValid, one, Subtree, count_at, id_of, most_at, times_under, view_at, MayUnderflowAt, debt, RemovesNode, strain_of, IsAt, positions, all_positions, Path, frame_id, frame_index, frame_view, least_at, parent_above, top, under, IsFormed, times_used, HasFocus, IsFocus, IsNode, same_Some}
use Rattle.btree_laws.proofs.Underflow.Adjacent.{AdjacentSteps}
use Rattle.btree_laws.specs.Moved.{moved_by_emptying}
use Rattle.btree_laws.proofs.Paths.Parents.{index-fits, index-here}
use Rattle.btree_laws.proofs.Paths.Frames.{one-self, top-view}
use Rattle.btree_laws.proofs.Trees.Numbers.{times-own, used-low, used-one}
use Rattle.btree_laws.proofs.Strain.Siblings.{release-strain}
use Rattle.btree_laws.proofs.Underflow.TreeAddresses.{emptied-place, release-places}
use Rattle.btree_laws.proofs.Underflow.ShrunkRoot.{emptied, released}
use Rattle.btree_laws.proofs.Paths.SiblingNumbers.{go-after, go-before, inner-is}
use Rattle.btree_laws.proofs.Trees.Sizes.{frame-size, view-parent, view-size}

module _ (A : Type 0) (node_at : NodeMap A) (root : ℕ) (xs : List A) (id : ℕ) (expected : Option A) (a : Address)
    (place freed bound : ℕ) (g : MayUnderflowAt A node_at root xs id expected a place freed bound) where
  -- the node is used, and this is its view
  pub underflow-node : node_at id ≡ Some (view_at A g.focus.height (parent_above g.focus.path) g.focus.subtree)
  underflow-node =
      subst (λ n. node_at n ≡ Some (view_at A g.focus.height (parent_above g.focus.path) g.focus.subtree)) g.focus.here
      (top-view A node_at g.focus.height (parent_above g.focus.path) g.focus.subtree g.focus.whole.inner)

  -- the number of the node that may have too few items is used
  pub underflow-used : 0 < times_used (node_at id)
  underflow-used =
      let u = used-one (node_at id) (view_at A g.focus.height (parent_above g.focus.path) g.focus.subtree) underflow-node in
      omega arith

  module _ (v : View A) (e : node_at id ≡ Some v) where
    view-is : v ≡ view_at A g.focus.height (parent_above g.focus.path) g.focus.subtree
    view-is = same_Some v (view_at A g.focus.height (parent_above g.focus.path) g.focus.subtree) (sym e ∙ underflow-node)

    size-is : size_of v ≡ count_at A g.focus.height g.focus.subtree
    size-is = ap size_of view-is ∙ view-size A g.focus.height (parent_above g.focus.path) g.focus.subtree

    at-rest : least_at g.focus.path ≤ count_at A g.focus.height g.focus.subtree
        → IsRepaired A node_at root xs expected a place freed bound
    at-rest low =
        let p = g.within_strain in
        record {
          id = id;
          node = record { focus = g.focus; sized = (low, g.high) };
          there = g.there;
          within_strain = omega arith;
        }

    -- with no item too few the fix ends
    pub underflow-done : 3 ≤ size_of v → IsRepaired A node_at root xs expected a place freed bound
    underflow-done enough = at-rest (let s = size-is in let l = low g.focus.height g.focus.path in omega arith)
      where
        low : (h : ℕ) (c : Path A h) → least_at c ≤ 3
        low h top = omega arith
        low h (under f c) = omega arith

    -- a root that has an item ends the repair
    pub underflow-done-root : parent_of v ≡ None → 0 < size_of v → IsRepaired A node_at root xs expected a place freed bound
    underflow-done-root up some =
        at-rest (let s = size-is in let l = low g.focus.height g.focus.path g.focus.subtree
        (ap parent_of (sym view-is) ∙ up) in omega arith)
      where
        low : (h : ℕ) (c : Path A h) (t : Subtree A h) → parent_of (view_at A h (parent_above c) t) ≡ None
            → least_at c ≡ 1
        low h top t q = refl
        low h (under f c) t q = let e = view-parent A h (Some (frame_id f)) t in absurd (cc)

    -- the parent, with the child's index, and the siblings of the child
    pub record Over (p : ℕ) : Type 0 where
      pub node : View A
      pub here : node_at p ≡ Some node
      pub inner : IsTrue (is_internal node)
      pub some : 0 < size_of node
      pub least : 2 ≤ size_of v
      pub index : ℕ
      pub child : slice_get (children_of node) index ≡ Some id
      pub within : index ≤ size_of node
      pub after : (k j : ℕ) → slice_get (children_of node) k ≡ Some id → slice_get (children_of node) (suc k) ≡ Some j
          → AdjacentSteps A node_at root xs expected a place freed bound p k id j
      pub before : (k i : ℕ) → slice_get (children_of node) k ≡ Some i → slice_get (children_of node) (suc k) ≡ Some id
          → AdjacentSteps A node_at root xs expected a place freed bound p k i id

    -- a node with a parent stands beside a sibling, for a rotation or a merge
    pub to-over : (p : ℕ) → parent_of v ≡ Some p → Over p
    to-over p up =
        at g.focus.height g.focus.path g.focus.subtree g.focus.here g.focus.whole (ap parent_of (sym view-is) ∙ up) g.there
        g.within_strain g.low g.high size-is
      where
        at : (h : ℕ) (c : Path A h) (t : Subtree A h) → id_of A h t ≡ id → IsFocus A node_at [] root xs h c t
            → parent_of (view_at A h (parent_above c) t) ≡ Some p → IsAt expected a (all_positions A h c t) place
            → freed + (strain_of A h c t + debt c (count_at A h t)) ≤ bound
            → least_at c ≤ suc (count_at A h t) → count_at A h t ≤ most_at h → size_of v ≡ count_at A h t → Over p
        at h top t here w q th pd lo hi sz = let e = view-parent A h None t in absurd (cc)
        at h (under f c) t here w q th pd lo hi sz =
            let e = view-parent A h (Some (frame_id f)) t in
            let ps : frame_id f ≡ p = same_Some (frame_id f) p (sym e ∙ q) in
            let fs = frame-size A h (parent_above c) f (id_of A h t) in
            let fm = w.filled.0.0 in
            let fi = index-fits A h f in
            subst (λ z. Over z) ps
            (record {
              node = frame_view (parent_above c) f (id_of A h t);
              here = w.above.0;
              inner = inner-is A node_at root xs id expected a place freed bound h f c t here w th pd (omega arith) hi f;
              some = (let l = low h c in omega arith);
              least = omega arith;
              index = frame_index f;
              child = index-here A h (parent_above c) f (id_of A h t) ∙ ap Some here;
              within = omega arith;
              after = go-after A node_at root xs id expected a place freed bound h f c t here w th pd (omega arith) hi;
              before = go-before A node_at root xs id expected a place freed bound h f c t here w th pd (omega arith) hi;
            })
          where
            low : (h : ℕ) (c : Path A (suc h)) → 1 ≤ least_at c
            low h top = omega arith
            low h (under f c) = omega arith

    -- the root without items, and its only child, which becomes the root
    pub record OnlyChild : Type 0 where
      pub child : ℕ
      pub only : children_of v ≡ child ∷ []
      pub node : View A
      pub here : node_at child ≡ Some node
      pub apart : child ≢ id
      pub next : (new : NodeMap A) → ShrinksRoot node_at new id child
          → IsRepaired A new child xs expected (moved_by_shrink_root id child (size_of node) a) place (suc freed) bound

    -- a root without items has one child, which becomes the root
    pub to-child : parent_of v ≡ None → size_of v ≡ 0 → IsTrue (is_internal v) → OnlyChild
    to-child up none inner =
        at g.focus.height g.focus.path g.focus.subtree g.focus.here g.focus.whole view-is g.there g.within_strain
        (let s = size-is in omega arith)
      where
        released-child : (h n : ℕ) (u : Subtree A h) → n ≡ id → IsFocus A node_at [] root xs (suc h) top (n, u, [])
            → v ≡ view_at A (suc h) None (n, u, [])
            → IsAt expected a (all_positions A (suc h) top (n, u, [])) place
            → freed + (strain_of A (suc h) top (n, u, []) + 1) ≤ bound → OnlyChild
        released-child h n u here w is th pd =
            let root_is : n ≡ root = w.root_is in
            let sum : (m : ℕ) → one m n + times_under A h m u ≤ 1 =
            λ m. let o = w.once m in let k = used-low (node_at m) in omega arith in
            let node : View A = view_at A h (Some n) u in
            let size = view-size A h (Some n) u in
            let below = w.below.0 in
            let b0 = below.0 in
            let st = release-strain A h n u in
            record {
              child = id_of A h u;
              only = ap children_of is;
              node = node;
              here = top-view A node_at h (Some n) u w.inner.1;
              apart = λ e.
                  let s = sum (id_of A h u) in
                  let o = times-own A h u in
                  let k : one (id_of A h u) n ≡ 1 = subst (λ z. one (id_of A h u) z ≡ 1) (e ∙ sym here)
                  (one-self (id_of A h u)) in
                  omega arith;
              next = λ new r.
                  let w2 = subst (λ z. IsFocus A node_at [] z xs (suc h) top (n, u, [])) (sym root_is) w in
                  let r2 = subst (λ z. ShrinksRoot node_at new z (id_of A h u)) (sym here) r in
                  let there = release-places A h n u sum expected a place th in
                  let focus : HasFocus A new [] (id_of A h u) xs (id_of A h u) =
                  record { height = h; path = top; subtree = u; here = refl; whole = released A node_at new xs n h u w2 (id_of A h u) r2 } in
                  let node_is : IsNode A new (id_of A h u) xs (id_of A h u) = record { focus = focus; sized = (omega arith, below.1) } in
                  record {
                    id = id_of A h u;
                    node = node_is;
                    there = subst (λ z. IsAt expected (moved_by_shrink_root z (id_of A h u) (size_of node) a)
                        (all_positions A h top u) place) here
                        (subst (λ z. IsAt expected (moved_by_shrink_root n (id_of A h u) z a) (all_positions A h top u) place)
                        (sym size) there);
                    within_strain = omega arith;
                  };
            }

        at : (h : ℕ) (c : Path A h) (t : Subtree A h) → id_of A h t ≡ id → IsFocus A node_at [] root xs h c t
            → v ≡ view_at A h (parent_above c) t → IsAt expected a (all_positions A h c t) place
            → freed + (strain_of A h c t + debt c (count_at A h t)) ≤ bound → count_at A h t ≡ 0 → OnlyChild
        at h (under f c) t here w is th pd z =
            let e = view-parent A h (Some (frame_id f)) t in
            let q : parent_of v ≡ Some (frame_id f) = ap parent_of is ∙ e in
            absurd (cc)
        at zero top t here w is th pd z = absurd (let q : is_internal v ≡ false = ap is_internal is in cc)
        at (suc h) top (n, u, b ∷ bs) here w is th pd z = absurd (omega arith)
        at (suc h) top (n, u, []) here w is th pd z = released-child h n u here w is th pd

    -- the root is a leaf without items: the tree is empty, and the address was at place 0
    pub record Emptied (new : NodeMap A) : Type 0 where
      pub formed : IsFormed new None xs
      pub at_zero : place ≡ 0
      pub valid : IsValid new None (moved_by_emptying a).id (moved_by_emptying a).offset
      pub at_place : IsPlace new None xs (moved_by_emptying a).id (moved_by_emptying a).offset place
      pub within_strain : suc freed ≤ bound

    -- a root without items and children is removed, and the tree is empty
    pub to-nothing : parent_of v ≡ None → size_of v ≡ 0 → is_internal v ≡ false → (new : NodeMap A) → RemovesNode node_at new id
        → Emptied new
    to-nothing up none leafy new lo =
        at g.focus.height g.focus.path g.focus.subtree g.focus.here g.focus.whole view-is g.there g.within_strain
        (let s = size-is in omega arith)
      where
        removed : (n : ℕ) → n ≡ id → IsFocus A node_at [] root xs 0 top (n, [])
            → IsAt expected a (all_positions A 0 top (n, [])) place
            → freed + (strain_of A 0 top (n, []) + 1) ≤ bound → Emptied new
        removed n here w th pd =
            let root_is : n ≡ root = w.root_is in
            let w2 = subst (λ z. IsFocus A node_at [] z xs 0 top (n, [])) (sym root_is) w in
            let z : place ≡ 0 =
            emptied-place A n expected a place
            (subst (λ l. IsAt expected a l place) (append-nil (positions A 0 (n, []))) th) in
            record {
              formed = emptied A node_at new xs n w2 (subst (λ i. RemovesNode node_at new i) (sym here) lo);
              at_zero = z;
              valid = inr (refl, refl, refl);
              at_place = ((refl, refl, refl), z);
              within_strain = omega arith;
            }

        at : (h : ℕ) (c : Path A h) (t : Subtree A h) → id_of A h t ≡ id → IsFocus A node_at [] root xs h c t
            → v ≡ view_at A h (parent_above c) t → IsAt expected a (all_positions A h c t) place
            → freed + (strain_of A h c t + debt c (count_at A h t)) ≤ bound → count_at A h t ≡ 0 → Emptied new
        at h (under f c) t here w is th pd z =
            let e = view-parent A h (Some (frame_id f)) t in
            let q : parent_of v ≡ Some (frame_id f) = ap parent_of is ∙ e in
            absurd (cc)
        at (suc h) top t here w is th pd z = absurd (let q : is_internal v ≡ true = ap is_internal is in cc)
        at zero top (n, x ∷ ys) here w is th pd z = absurd (omega arith)
        at zero top (n, []) here w is th pd z = removed n here w th pd
