-- A node and the children before and after it, by the numbers in their parent.
use Rattle.btree_laws.proofs.Common.{◌≡◌, ◌≤◌, ◌++◌, ◌∷◌, [], ◌∙◌, ◌+◌, ℕ, suc, List, length, map, Option, Some, refl, sym, ap, subst, arith, append_assoc, length-append, same_Some, slice_get_within, IsTrue, slice_get, Address, is_internal, NodeMap, View, children_of, internal, leaf, size_of, Subtree, count_at, id_of, most_at, strain_of, IsAt, all_positions, Path, Frame, at_branch, at_first, fill, fill_two, frame_count, frame_id, frame_index, frame_view, parent_above, under, IsFocus}
use Rattle.btree_laws.proofs.Underflow.Adjacent.{adjacent-steps, AdjacentSteps}
use Rattle.btree_laws.proofs.Paths.Parents.{index-is}
use Rattle.btree_laws.proofs.LookUp.Descent.{get-after}
use Rattle.btree_laws.proofs.Paths.Frames.{fill-view, times_in-is}
use Rattle.btree_laws.proofs.Underflow.Writes.{frame-parts}
use Rattle.btree_laws.proofs.Paths.Siblings.{AfterIt, BeforeIt, after-it, before-it}
use Rattle.btree_laws.proofs.Trees.Numbers.{times-own, used-low}
use Rattle.btree_laws.proofs.Places.OneList.{positions-close}
use Rattle.btree_laws.proofs.Trees.Sizes.{frame-size}
use Rattle.btree_laws.proofs.Strain.Splits.{strain-close}
use Rattle.btree_laws.proofs.Underflow.Items.{children_at, children_at-is}

-- an internal node has one child more than items
pub children-count : {A : Type 0} (v : View A) → IsTrue (is_internal v) → length (children_of v) ≡ suc (size_of v)
children-count (leaf p xs) i = absurd (cc)
children-count {A} (internal p u bs) i = ap suc (same bs)
  where
    same : (cs : List (A × ℕ)) → length (map {B = ℕ} (λ c. c.1) cs) ≡ length (map {B = A} (λ c. c.0) cs)
    same [] = refl
    same (c ∷ cs) = ap suc (same cs)

module _ (A : Type 0) (node_at : NodeMap A) (root : ℕ) (xs : List A) (id : ℕ) (expected : Option A) (a : Address)
    (place freed bound : ℕ) where
  module _ (h : ℕ) (f : Frame A h) (c : Path A (suc h)) (t : Subtree A h) (here : id_of A h t ≡ id)
      (w : IsFocus A node_at [] root xs h (under f c) t) (th : IsAt expected a (all_positions A h (under f c) t) place)
      (pd : freed + (strain_of A h (under f c) t + 0) ≤ bound) (lo : 2 ≤ count_at A h t)
      (hi : count_at A h t ≤ most_at h) where
    abbrev Node : View A
    Node = frame_view (parent_above c) f (id_of A h t)

    only : (k : ℕ) → slice_get (children_of Node) k ≡ Some id → k ≡ frame_index f
    only k e =
        let o = w.once (id_of A h t) in
        let u = used-low (node_at (id_of A h t)) in
        let s = times-own A h t in
        let ti = times_in-is A h (id_of A h t) f in
        index-is A h (parent_above c) f (id_of A h t) k (omega arith) (e ∙ ap Some (sym here))

    pub inner-is : (f : Frame A h) → IsTrue (is_internal (frame_view (parent_above c) f (id_of A h t)))
    inner-is (at_first n back) = refl
    inner-is (at_branch n first front y back) = refl

    inside : (k n : ℕ) → slice_get (children_of Node) k ≡ Some n → k ≤ frame_count f
    inside k n e =
        let q = slice_get_within (children_of Node) k n e in
        let l = children-count Node (inner-is f) in
        let s = frame-size A h (parent_above c) f (id_of A h t) in
        omega arith

    -- the children, if the frame is filled with two
    two-children : (f2 : Frame A h) (l : Subtree A h) (x : A) (r : Subtree A h) → fill f t ≡ fill_two f2 l x r
        → children_of Node ≡ children_at A (suc h) (fill_two f2 l x r)
    two-children f2 l x r same =
        ap children_of (sym (fill-view A h (parent_above c) f t))
        ∙ (children_at-is A (suc h) (parent_above c) (fill f t) ∙ ap (children_at A (suc h)) same)

    first-of-two : (f2 : Frame A h) (l : Subtree A h) (x : A) (r : Subtree A h) → fill f t ≡ fill_two f2 l x r
        → slice_get (children_of Node) (frame_index f2) ≡ Some (id_of A h l)
    first-of-two f2 l x r same =
        let k = frame-parts A h f2 in
        ap (λ cs. slice_get cs (frame_index f2)) (two-children f2 l x r same ∙ k.children_are l x r)
        ∙ get-after k.before (id_of A h l) (id_of A h r ∷ k.behind) (frame_index f2) (sym k.before_count)

    second-of-two : (f2 : Frame A h) (l : Subtree A h) (x : A) (r : Subtree A h) → fill f t ≡ fill_two f2 l x r
        → slice_get (children_of Node) (suc (frame_index f2)) ≡ Some (id_of A h r)
    second-of-two f2 l x r same =
        let k = frame-parts A h f2 in
        let i : ℕ = id_of A h l in
        let q = length-append k.before (i ∷ []) in
        let n = k.before_count in
        ap (λ cs. slice_get cs (suc (frame_index f2)))
        (two-children f2 l x r same ∙ (k.children_are l x r
        ∙ sym (append_assoc k.before (i ∷ []) (id_of A h r ∷ k.behind))))
        ∙ get-after (k.before ++ i ∷ []) (id_of A h r) k.behind (suc (frame_index f2)) (omega arith)

    positions-two : (f2 : Frame A h) (l : Subtree A h) (x : A) (r : Subtree A h) → fill f t ≡ fill_two f2 l x r
        → IsAt expected a (all_positions A (suc h) c (fill_two f2 l x r)) place
    positions-two f2 l x r same =
        subst (λ s. IsAt expected a (all_positions A (suc h) c s) place) same
        (subst (λ l. IsAt expected a l place) (positions-close A h f c t) th)

    within-two : (f2 : Frame A h) (l : Subtree A h) (x : A) (r : Subtree A h) → fill f t ≡ fill_two f2 l x r
        → freed + strain_of A (suc h) c (fill_two f2 l x r) ≤ bound
    within-two f2 l x r same =
        let s = strain-close A h f c t in
        let q : strain_of A (suc h) c (fill f t) ≡ strain_of A (suc h) c (fill_two f2 l x r) =
        ap (strain_of A (suc h) c) same in
        omega arith

    pub go-after : (k j : ℕ) → slice_get (children_of Node) k ≡ Some id
        → slice_get (children_of Node) (suc k) ≡ Some j
        → AdjacentSteps A node_at root xs expected a place freed bound (frame_id f) k id j
    go-after k j ek ej =
        let ki = only k ek in
        let lt = inside (suc k) j ej in
        let n : AfterIt A node_at root xs h c t f = after-it A node_at root xs h c t f (omega arith) w in
        let b =
        adjacent-steps A node_at root xs expected a place freed bound h n.frame c t n.between n.right n.pair
        (let z0 = w.filled.0.0 in let z1 = w.filled.0.1 in let q = n.count_is in (omega arith, omega arith))
        (positions-two n.frame t n.between n.right n.same) (within-two n.frame t n.between n.right n.same) lo hi
        (let q = n.right_filled.0 in omega arith) n.right_filled.1 (let q = n.right_filled.0 in omega arith) in
        let ji : id_of A h n.right ≡ j =
        same_Some (id_of A h n.right) j
        (sym (second-of-two n.frame t n.between n.right n.same)
        ∙ (ap (λ m. slice_get (children_of Node) (suc m)) (n.index_is ∙ sym ki) ∙ ej)) in
        subst (λ m. AdjacentSteps A node_at root xs expected a place freed bound m k id j) n.id_is
        (subst (λ m. AdjacentSteps A node_at root xs expected a place freed bound (frame_id n.frame) m id j)
        (n.index_is ∙ sym ki)
        (subst (λ m. AdjacentSteps A node_at root xs expected a place freed bound (frame_id n.frame) (frame_index n.frame) m j)
        here (subst (λ m. AdjacentSteps A node_at root xs expected a place freed bound (frame_id n.frame)
        (frame_index n.frame) (id_of A h t) m) ji b)))

    pub go-before : (k i : ℕ) → slice_get (children_of Node) k ≡ Some i
        → slice_get (children_of Node) (suc k) ≡ Some id
        → AdjacentSteps A node_at root xs expected a place freed bound (frame_id f) k i id
    go-before k i ei ek =
        let ki = only (suc k) ek in
        let n : BeforeIt A node_at root xs h c t f = before-it A node_at root xs h c t f (omega arith) w in
        let b =
        adjacent-steps A node_at root xs expected a place freed bound h n.frame c n.left n.between t n.pair
        (let z0 = w.filled.0.0 in let z1 = w.filled.0.1 in let q = n.count_is in (omega arith, omega arith))
        (positions-two n.frame n.left n.between t n.same) (within-two n.frame n.left n.between t n.same)
        (let q = n.left_filled.0 in omega arith) n.left_filled.1 lo hi (let q = n.left_filled.0 in omega arith) in
        let same : frame_index n.frame ≡ k = (let q = n.index_is in omega arith) in
        let ii : id_of A h n.left ≡ i =
        same_Some (id_of A h n.left) i
        (sym (first-of-two n.frame n.left n.between t n.same)
        ∙ (ap (λ m. slice_get (children_of Node) m) same ∙ ei)) in
        subst (λ m. AdjacentSteps A node_at root xs expected a place freed bound m k i id) n.id_is
        (subst (λ m. AdjacentSteps A node_at root xs expected a place freed bound (frame_id n.frame) m i id) same
        (subst (λ m. AdjacentSteps A node_at root xs expected a place freed bound (frame_id n.frame) (frame_index n.frame) i m)
        here (subst (λ m. AdjacentSteps A node_at root xs expected a place freed bound (frame_id n.frame)
        (frame_index n.frame) m (id_of A h t)) ii b)))
