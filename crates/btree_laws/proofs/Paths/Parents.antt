-- From a node to its parent: which child it is, and how many levels are left.
use Rattle.btree_laws.proofs.Common.{◌≡◌, ◌<◌, ◌≤◌, ◌++◌, ◌∷◌, [], ◌∙◌, ◌+◌, ℕ, zero, suc, List, length, map, Option, Some, refl, sym, ap, subst, arith, length-append, map-append, slice_get, NodeMap, View, children_of, parent_of, levels_above, one, times_listed, total, Subtree, id_of, items_under, later_items, times_under, Path, AreFilled, Frame, HoldsAbove, after_in, at_branch, at_first, before_in, depth, frame_count, frame_id, frame_index, frame_view, items_after, items_before, parent_above, times_in_siblings, top, under}
use Rattle.btree_laws.proofs.LookUp.Descent.{get-after}
use Rattle.btree_laws.proofs.Paths.Frames.{one-self}
use Rattle.btree_laws.proofs.Trees.Heights.{low-enough}
use Rattle.btree_laws.proofs.Trees.Numbers.{times-has}
use Rattle.btree_laws.proofs.Trees.Sizes.{frame-parent}

-- the numbers of a node's children, after a front of branches
pub ids-append : {A : Type 0} (front back : List (A × ℕ)) → map {B = ℕ} (λ b. b.1) (front ++ back) ≡ map {B = ℕ}
    (λ b. b.1) front ++ map {B = ℕ} (λ b. b.1) back
ids-append front back = map-append (λ b. b.1) front back

-- a number at an index of a list is listed
pub get-times : (ns : List ℕ) (k n : ℕ) → slice_get ns k ≡ Some n → 0 < times_listed n ns
get-times [] k n e = absurd (cc)
get-times (m ∷ ns) zero n e =
    let s : m ≡ n = cc in let o = one-self n in let q : one n m ≡ 1 = subst (λ z. one n z ≡ 1) (sym s) o in omega arith
get-times (m ∷ ns) (suc k) n e = let r = get-times ns k n e in omega arith

-- a number that is in a list once is at one index
pub get-once : (front : List ℕ) (n : ℕ) (back : List ℕ) (k : ℕ) → times_listed n front + times_listed n back ≡ 0
    → slice_get (front ++ n ∷ back) k ≡ Some n → k ≡ length front
get-once [] n back zero none e = refl
get-once [] n back (suc k) none e = let r = get-times back k n e in absurd (omega arith)
get-once (m ∷ front) n back zero none e =
    let s : m ≡ n = cc in
    let q : one n m ≡ 1 = subst (λ z. one n z ≡ 1) (sym s) (one-self n) in
    absurd (omega arith)
get-once (m ∷ front) n back (suc k) none e = ap suc (get-once front n back k (omega arith) e)

module _ (A : Type 0) where
  pub ids-times : (h n : ℕ) (bs : List (A × Subtree A h)) → times_listed n
      (map {B = ℕ} (λ b. b.1) (map {B = A × ℕ} (λ (b : A × Subtree A h). (b.0, id_of A h b.1)) bs)) ≤ total
      (λ (b : A × Subtree A h). times_under A h n b.1) bs
  ids-times h n [] = omega arith
  ids-times h n (b ∷ bs) = omega (arith, ids-times h n bs, times-has A h n b.1)

  ids-length : (h : ℕ) (bs : List (A × Subtree A h)) → length
      (map {B = ℕ} (λ b. b.1) (map {B = A × ℕ} (λ (b : A × Subtree A h). (b.0, id_of A h b.1)) bs)) ≡ length bs
  ids-length h [] = refl
  ids-length h (b ∷ bs) = ap suc (ids-length h bs)

  -- the hole is the only child with its number
  pub index-is : (h : ℕ) (p : Option ℕ) (f : Frame A h) (hole k : ℕ) → times_in_siblings hole f ≡ 0
      → slice_get (children_of (frame_view p f hole)) k ≡ Some hole → k ≡ frame_index f
  index-is h p (at_first n back) hole k none e = get-once [] hole
      (map {B = ℕ} (λ b. b.1) (map {B = A × ℕ} (λ (b : A × Subtree A h). (b.0, id_of A h b.1)) back)) k
      (omega (arith, ids-times h hole back)) e
  index-is h p (at_branch n first front x back) hole k none e =
      let fs : List (A × ℕ) = map {B = A × ℕ} (λ (b : A × Subtree A h). (b.0, id_of A h b.1)) front in
      let bs : List (A × ℕ) = map {B = A × ℕ} (λ (b : A × Subtree A h). (b.0, id_of A h b.1)) back in
      let e2 : slice_get ((id_of A h first ∷ map {B = ℕ} (λ b. b.1) fs) ++ hole ∷ map {B = ℕ} (λ b. b.1) bs) k ≡ Some
      hole =
      ap (λ l. slice_get (id_of A h first ∷ l) k) (sym (ids-append fs ((x, hole) ∷ bs))) ∙ e in
      let r = get-once (id_of A h first ∷ map {B = ℕ} (λ b. b.1) fs) hole (map {B = ℕ} (λ b. b.1) bs) k
      (omega (arith, ids-times h hole front, ids-times h hole back, times-has A h hole first)) e2 in
      let l = ids-length h front in
      omega arith

  pub index-here : (h : ℕ) (p : Option ℕ) (f : Frame A h) (hole : ℕ)
      → slice_get (children_of (frame_view p f hole)) (frame_index f) ≡ Some hole
  index-here h p (at_first n back) hole = refl
  index-here h p (at_branch n first front x back) hole =
      let fs : List (A × ℕ) = map {B = A × ℕ} (λ (b : A × Subtree A h). (b.0, id_of A h b.1)) front in
      let bs : List (A × ℕ) = map {B = A × ℕ} (λ (b : A × Subtree A h). (b.0, id_of A h b.1)) back in
      let l = ids-length h front in
      ap (λ l. slice_get (id_of A h first ∷ l) (length front + 1)) (ids-append fs ((x, hole) ∷ bs))
      ∙ get-after (id_of A h first ∷ map {B = ℕ} (λ b. b.1) fs) hole (map {B = ℕ} (λ b. b.1) bs) (length front + 1)
      (omega arith)

  pub index-fits : (h : ℕ) (f : Frame A h) → frame_index f ≤ frame_count f
  index-fits h (at_first n back) = omega arith
  index-fits h (at_branch n first front x back) = omega arith

  -- each level above adds an item
  pub deep-enough : (h : ℕ) (c : Path A h) → AreFilled c → depth c ≤ length (items_before c) + length (items_after c)
  deep-enough h top s = omega arith
  deep-enough h (under f c) s =
      let r = deep-enough (suc h) c s.2 in
      let a = length-append (items_before c) (before_in f) in
      let b = length-append (after_in f) (items_after c) in
      let l = low-enough A (suc h) c in
      let m : 0 < length (before_in f) + length (after_in f) = some f (omega (arith, s.0.0)) in
      omega arith
    where
      some : (g : Frame A h) → 0 < frame_count g → 0 < length (before_in g) + length (after_in g)
      some (at_first n []) z = absurd (omega arith)
      some (at_first n (b ∷ back)) z = omega arith
      some (at_branch n first front x back) z =
          omega (arith, length-append (items_under A h first ++ later_items A h front) (x ∷ []))

  pub levels-above-is : (node_at : NodeMap A) (h n : ℕ) (c : Path A h) (hole : ℕ) (v : View A) → depth c ≤ n
      → node_at hole ≡ Some v → parent_of v ≡ parent_above c → HoldsAbove node_at c hole → levels_above node_at n hole ≡ depth c
  levels-above-is node_at h zero top hole v le e p d = refl
  levels-above-is node_at h (suc n) top hole v le e p d = rw (e, p) refl
  levels-above-is node_at h zero (under f c) hole v le e p d = absurd (omega arith)
  levels-above-is node_at h (suc n) (under f c) hole v le e p d =
      rw (e, p) (ap suc (levels-above-is node_at (suc h) n c (frame_id f) (frame_view (parent_above c) f hole)
      (omega arith) d.0 (frame-parent A h (parent_above c) f hole) d.2))
