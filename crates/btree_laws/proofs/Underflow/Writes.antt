-- What a rotation writes: the parent with another item, and the two children, one with the outer child of the other.
use Rattle.btree_laws.proofs.Common.{◌≡◌, ◌≢◌, ◌<◌, ◌≤◌, ◌++◌, ◌∷◌, [], ◌∙◌, ◌+◌, ◌-◌, ℕ, zero, suc, List, length, map, set, Option, Some, None, refl, sym, ap, subst, arith, append_assoc, length-append, length-map, remove, option_map, slice_get, is_internal, with_parent, NodeMap, View, children_of, items_of, parent_of, as_list, one, times_listed, total, IsRemade, first_of, Holds, Subtree, id_of, times_under, view_at, Frame, at_branch, at_first, fill, fill_two, frame_index, same_Some}
use Rattle.std.proofs.Math.Seq.{set-append_seam}
use Rattle.std.proofs.lemmas.List.Edits.{remove-append_right}
use Rattle.btree_view.specs.Edits.{HasChildFor}
use Rattle.btree_laws.proofs.LookUp.Descent.{cons-parts, get-after}
use Rattle.btree_laws.proofs.Paths.Frames.{AllByRecursion-append, AllByRecursion-left, AllByRecursion-right, eachs-same, holds-same, one-self, one-zero, total-append}
use Rattle.btree_laws.proofs.Splits.NodeAddresses.{Apart}
use Rattle.btree_laws.proofs.Trees.Sizes.{view-parent}
use Rattle.btree_laws.proofs.Splits.TwoParts.{reparent_children, times-top, times_below}
use Rattle.btree_laws.proofs.Underflow.Items.{children_at, children_at-is, ids-append, items_at, items_at-is, keys-append, kind-is, numbered, view-same}

pub set-seam : {X : Type 0} (front : List X) (x : X) (back : List X) (n : ℕ) (y : X) → length front ≡ n
    → set (front ++ x ∷ back) n y ≡ front ++ y ∷ back
set-seam front x back n y e = subst (λ k. set (front ++ x ∷ back) k y ≡ front ++ y ∷ back) e
    (set-append_seam front x back y)

pub remove-seam : {X : Type 0} (front : List X) (x : X) (back : List X) (n : ℕ) → length front ≡ n
    → remove (front ++ x ∷ back) n ≡ front ++ back
remove-seam front x back n e =
    let z : n - n ≡ 0 = omega arith in
    remove-append_right front (x ∷ back) n n e (omega arith) ∙ ap (λ k. front ++ remove (x ∷ back) k) z

module _ (A : Type 0) where
  -- the items and children of a node with a hole for two siblings
  pub record FrameParts (h : ℕ) (f : Frame A h) : Type 0 where
    pub front : List A
    pub back : List A
    pub before : List ℕ
    pub behind : List ℕ
    pub front_count : length front ≡ frame_index f
    pub before_count : length before ≡ frame_index f
    pub items_are : (a : Subtree A h) (x : A) (b : Subtree A h) → items_at A (suc h) (fill_two f a x b) ≡ front ++ x ∷ back
    pub children_are : (a : Subtree A h) (x : A) (b : Subtree A h)
        → children_at A (suc h) (fill_two f a x b) ≡ before ++ id_of A h a ∷ id_of A h b ∷ behind
    pub one_items : (t : Subtree A h) → items_at A (suc h) (fill f t) ≡ front ++ back
    pub one_children : (t : Subtree A h) → children_at A (suc h) (fill f t) ≡ before ++ id_of A h t ∷ behind

  pub frame-parts : (h : ℕ) (f : Frame A h) → FrameParts h f
  frame-parts h (at_first n back) =
      record {
        front = [];
        back = map {B = A} (λ b. b.0) (map (numbered A h) back);
        before = [];
        behind = map {B = ℕ} (λ b. b.1) (map (numbered A h) back);
        front_count = refl;
        before_count = refl;
        items_are = λ a x b. refl;
        children_are = λ a x b. refl;
        one_items = λ t. refl;
        one_children = λ t. refl;
      }
  frame-parts h (at_branch n first front z back) =
      let ks : List A = map {B = A} (λ b. b.0) (map (numbered A h) front) in
      let kb : List A = map {B = A} (λ b. b.0) (map (numbered A h) back) in
      let is : List ℕ = map {B = ℕ} (λ b. b.1) (map (numbered A h) front) in
      let ib : List ℕ = map {B = ℕ} (λ b. b.1) (map (numbered A h) back) in
      let lk : length ks ≡ length front =
      length-map (map (numbered A h) front) (λ (b : A × ℕ). b.0) ∙ length-map front (numbered A h) in
      let li : length is ≡ length front =
      length-map (map (numbered A h) front) (λ (b : A × ℕ). b.1) ∙ length-map front (numbered A h) in
      let la = length-append ks (z ∷ []) in
      record {
        front = ks ++ z ∷ [];
        back = kb;
        before = id_of A h first ∷ is;
        behind = ib;
        front_count = omega arith;
        before_count = omega arith;
        items_are = λ a x b. keys-append A h front ((z, a) ∷ (x, b) ∷ back) ∙ sym (append_assoc ks (z ∷ []) (x ∷ kb));
        children_are = λ a x b. ap (λ l. id_of A h first ∷ l) (ids-append A h front ((z, a) ∷ (x, b) ∷ back));
        one_items = λ t. keys-append A h front ((z, t) ∷ back) ∙ sym (append_assoc ks (z ∷ []) kb);
        one_children = λ t. ap (λ l. id_of A h first ∷ l) (ids-append A h front ((z, t) ∷ back));
      }

  -- a node that is changed to the root of another subtree
  pub remade-view : (h : ℕ) (p : Option ℕ) (t s : Subtree A h) (old new : View A) (is : List A) (cs : List ℕ)
      → old ≡ view_at A h p t → IsRemade old new is cs → is ≡ items_at A h s → cs ≡ children_at A h s
      → new ≡ view_at A h p s
  remade-view h p t s old new is cs e r ei ec =
      view-same new (view_at A h p s) (r.kind ∙ (ap is_internal e ∙ kind-is A h p p t s))
      (r.parent ∙ (ap parent_of e ∙ (view-parent A h p t ∙ sym (view-parent A h p s))))
      (r.items_are ∙ (ei ∙ sym (items_at-is A h p s))) (r.children_are ∙ (ec ∙ sym (children_at-is A h p s)))

  -- the parent, with another item between the two
  pub exchanged-view : (h : ℕ) (p : Option ℕ) (f : Frame A h) (a : Subtree A h) (x : A) (b new_a : Subtree A h) (y : A)
      (new_b : Subtree A h) (old new : View A)
      → id_of A h new_a ≡ id_of A h a → id_of A h new_b ≡ id_of A h b
      → old ≡ view_at A (suc h) p (fill_two f a x b)
      → IsRemade old new (set (items_of old) (frame_index f) y) (children_of old)
      → new ≡ view_at A (suc h) p (fill_two f new_a y new_b)
  exchanged-view h p f a x b new_a y new_b old new ea eb e r =
      let k = frame-parts h f in
      let i1 : items_of old ≡ k.front ++ x ∷ k.back =
      ap items_of e ∙ (items_at-is A (suc h) p (fill_two f a x b) ∙ k.items_are a x b) in
      let c1 : children_of old ≡ k.before ++ id_of A h a ∷ id_of A h b ∷ k.behind =
      ap children_of e ∙ (children_at-is A (suc h) p (fill_two f a x b) ∙ k.children_are a x b) in
      remade-view (suc h) p (fill_two f a x b) (fill_two f new_a y new_b) old new (set (items_of old) (frame_index f) y)
      (children_of old) e r
      (ap (λ l. set l (frame_index f) y) i1 ∙ (set-seam k.front x k.back (frame_index f) y k.front_count
      ∙ sym (k.items_are new_a y new_b)))
      (c1 ∙ (ap (λ i. k.before ++ i ∷ id_of A h b ∷ k.behind) (sym ea)
      ∙ (ap (λ i. k.before ++ id_of A h new_a ∷ i ∷ k.behind) (sym eb) ∙ sym (k.children_are new_a y new_b))))

  -- the item at the index is the separator of the two
  pub down-between : (h : ℕ) (p : Option ℕ) (f : Frame A h) (a : Subtree A h) (x : A) (b : Subtree A h) (old : View A)
      (down : A) → old ≡ view_at A (suc h) p (fill_two f a x b) → slice_get (items_of old) (frame_index f) ≡ Some down
      → down ≡ x
  down-between h p f a x b old down e g =
      let k = frame-parts h f in
      let i1 : items_of old ≡ k.front ++ x ∷ k.back =
      ap items_of e ∙ (items_at-is A (suc h) p (fill_two f a x b) ∙ k.items_are a x b) in
      same_Some down x (sym g ∙ (ap (λ l. slice_get l (frame_index f)) i1
      ∙ get-after k.front x k.back (frame_index f) (sym k.front_count)))

  -- the first child, if there is one
  pub child-is : (h : ℕ) (p : Option ℕ) (t : Subtree A h) (v : View A) (child : Option ℕ) (rest : List ℕ)
      → v ≡ view_at A h p t → HasChildFor child v → children_of v ≡ as_list child ++ rest
      → (child ≡ first_of A h t)
  child-is zero p t v None rest e k c = refl
  child-is zero p t v (Some n) rest e k c = absurd (let q = k ∙ ap is_internal e in cc)
  child-is (suc h) p t v None rest e k c = absurd (let q = k ∙ ap is_internal e in cc)
  child-is (suc h) p t v (Some n) rest e k c =
      ap Some (cons-parts {X = ℕ} (sym c ∙ ap children_of e)).0

  pub first-inside : (h n : ℕ) (t : Subtree A h) → times_listed n (as_list (first_of A h t)) ≤ times_below A h n t
  first-inside zero n t = omega arith
  first-inside (suc h) n t = omega (arith, times-top A h n t.1)

module _ (A : Type 0) (node_at new : NodeMap A) where
  -- a child that moves from one of two nodes to the other, and what stays below them
  module _ (h i j q adopter : ℕ) (u : Subtree A h) (inside : ℕ → ℕ)
      (apart : (n : ℕ) → one n q + (one n i + one n j + (times_under A h n u + inside n)) ≤ 1)
      (moved : (n : ℕ) → n ≢ q → n ≢ i → n ≢ j → 0 < times_listed n (id_of A h u ∷ [])
      → new n ≡ option_map (with_parent (Some adopter)) (node_at n))
      (kept : (n : ℕ) → n ≢ q → n ≢ i → n ≢ j → times_listed n (id_of A h u ∷ []) ≡ 0 → new n ≡ node_at n) where
    stays : (n : ℕ) → 0 < inside n → new n ≡ node_at n
    stays n m =
        let o = apart n in let t = times-top A h n u in
        kept n (one-zero n q (omega arith)) (one-zero n i (omega arith)) (one-zero n j (omega arith)) (omega arith)

    goes : (p : Option ℕ) → Holds A node_at h p u → Holds A new h (Some adopter) u
    goes p d =
        let k : ℕ = id_of A h u in
        let s = one-self k in
        let o = apart k in
        let t = times-top A h k u in
        reparent_children A node_at new h p (Some adopter) u
        (moved k (one-zero k q (omega arith)) (one-zero k i (omega arith)) (one-zero k j (omega arith)) (omega arith))
        (λ n m. let o = apart n in let t = times-top A h n u in
        kept n (one-zero n q (omega arith)) (one-zero n i (omega arith)) (one-zero n j (omega arith)) (omega arith)) d

  -- the nodes below two siblings, one of which lends the other its outer child
  module _ (h q i j : ℕ) (first : Subtree A h) (left : List (A × Subtree A h)) (x : A) (u : Subtree A h) (y : A)
      (w : Subtree A h) (right : List (A × Subtree A h)) where
    pub to-left : Apart A (suc h) q (i, first, left) (j, u, (y, w) ∷ right)
        → ((n : ℕ) → n ≢ q → n ≢ i → n ≢ j → 0 < times_listed n (id_of A h u ∷ [])
        → new n ≡ option_map (with_parent (Some i)) (node_at n))
        → ((n : ℕ) → n ≢ q → n ≢ i → n ≢ j → times_listed n (id_of A h u ∷ []) ≡ 0 → new n ≡ node_at n)
        → new i ≡ Some (view_at A (suc h) (Some q) (i, first, left ++ (x, u) ∷ []))
        → new j ≡ Some (view_at A (suc h) (Some q) (j, w, right))
        → Holds A node_at (suc h) (Some q) (i, first, left) → Holds A node_at (suc h) (Some q) (j, u, (y, w) ∷ right)
        → Holds A new (suc h) (Some q) (i, first, left ++ (x, u) ∷ []) × Holds A new (suc h) (Some q) (j, w, right)
    to-left near moved kept ei ej da db =
        let inside : ℕ → ℕ =
        λ n. times_under A h n first + total (λ (b : A × Subtree A h). times_under A h n b.1) left
        + (times_under A h n w + total (λ (b : A × Subtree A h). times_under A h n b.1) right) in
        let apart : (n : ℕ) → one n q + (one n i + one n j + (times_under A h n u + inside n)) ≤ 1 =
        λ n. let o = near.sum n in omega arith in
        let stay = stays h i j q i u inside apart moved kept in
        let go = goes h i j q i u inside apart moved kept (Some j) db.1 in (
          (
            ei,
            holds-same A node_at new h (Some i) first (λ n m. stay n (omega arith)) da.1,
            AllByRecursion-append (λ b. Holds A new h (Some i) b.1) left ((x, u) ∷ [])
                (eachs-same A node_at new h (Some i) left (λ n m. stay n (omega arith)) da.2) (go, tt),
          ),
          (
            ej,
            holds-same A node_at new h (Some j) w (λ n m. stay n (omega arith)) db.2.0,
            eachs-same A node_at new h (Some j) right (λ n m. stay n (omega arith)) db.2.1,
          ),
        )

    pub to-right : Apart A (suc h) q (i, first, left ++ (x, u) ∷ []) (j, w, right)
        → ((n : ℕ) → n ≢ q → n ≢ i → n ≢ j → 0 < times_listed n (id_of A h u ∷ [])
        → new n ≡ option_map (with_parent (Some j)) (node_at n))
        → ((n : ℕ) → n ≢ q → n ≢ i → n ≢ j → times_listed n (id_of A h u ∷ []) ≡ 0 → new n ≡ node_at n)
        → new i ≡ Some (view_at A (suc h) (Some q) (i, first, left))
        → new j ≡ Some (view_at A (suc h) (Some q) (j, u, (y, w) ∷ right))
        → Holds A node_at (suc h) (Some q) (i, first, left ++ (x, u) ∷ []) → Holds A node_at (suc h) (Some q) (j, w, right)
        → Holds A new (suc h) (Some q) (i, first, left) × Holds A new (suc h) (Some q) (j, u, (y, w) ∷ right)
    to-right near moved kept ei ej da db =
        let H : A × Subtree A h → Type 0 = λ b. Holds A node_at h (Some i) b.1 in
        let inside : ℕ → ℕ =
        λ n. times_under A h n first + total (λ (b : A × Subtree A h). times_under A h n b.1) left
        + (times_under A h n w + total (λ (b : A × Subtree A h). times_under A h n b.1) right) in
        let apart : (n : ℕ) → one n q + (one n i + one n j + (times_under A h n u + inside n)) ≤ 1 =
        λ n. let o = near.sum n in
        let s = total-append (λ (b : A × Subtree A h). times_under A h n b.1) left ((x, u) ∷ []) in omega arith in
        let stay = stays h i j q j u inside apart moved kept in
        let last = AllByRecursion-right H left ((x, u) ∷ []) da.2 in
        let go = goes h i j q j u inside apart moved kept (Some i) last.0 in (
          (
            ei,
            holds-same A node_at new h (Some i) first (λ n m. stay n (omega arith)) da.1,
            eachs-same A node_at new h (Some i) left (λ n m. stay n (omega arith))
                (AllByRecursion-left H left ((x, u) ∷ []) da.2),
          ),
          (
            ej,
            go,
            (
              holds-same A node_at new h (Some j) w (λ n m. stay n (omega arith)) db.1,
              eachs-same A node_at new h (Some j) right (λ n m. stay n (omega arith)) db.2,
            ),
          ),
        )
