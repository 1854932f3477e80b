-- A search for a key that goes down: what the items of a node decide about the whole list, and which child is next.
use Rattle.btree_laws.proofs.Common.{◌≡◌, ◌<◌, ◌++◌, ◌∷◌, [], ◌∙◌, ℕ, zero, suc, List, length, map, Option, Some, Err, refl, sym, ap, subst, arith, append_assoc, append-nil, length-append, flat_map-append, length-map, map-append, AllByRecursion, slice_get, Ordering, Less, Cuts, Ascends, place_of, NodeMap, View, children_of, items_of, leaf, levels_below, IsFilled, Subtree, count_at, id_of, items_under, later_items, view_at, Path, Frame, after_in, at_branch, at_first, before_in, fill, frame_id, items_after, items_before, least_at, parent_above, under, HasFocus, IsFocus, IsNode}
use Rattle.btree_laws.specs.Focus.Search.{IsPart, IsSearching}
use Rattle.btree_laws.proofs.Paths.Frames.{AllByRecursion-append, AllByRecursion-right, fill-id, fill-items, top-view}
use Rattle.btree_laws.proofs.Trees.Heights.{height-fits, levels-is}
use Rattle.btree_laws.proofs.Trees.Sizes.{view-items}
use Rattle.btree_laws.proofs.LookUp.KeyInList.{AreAbove, AreBelow, Rises, above-pivot, ascends, below-pivot, rises-left, rises-right, searched, side}
use Rattle.btree_laws.proofs.Paths.Focus.{descend}

-- a list whose image is two parts is itself two parts
pub record MapParts {X Y : Type 0} (f : X → Y) (xs : List X) (ys zs : List Y) : Type 0 where
  pub left : List X
  pub right : List X
  pub is : xs ≡ left ++ right
  pub first : map f left ≡ ys
  pub second : map f right ≡ zs

pub cons-parts : {X : Type 0} {x y : X} {xs ys : List X} → x ∷ xs ≡ y ∷ ys → (x ≡ y) × (xs ≡ ys)
cons-parts e = (cc, cc)

-- where a mapped list has two parts, so has the list itself
pub map-parts : {X Y : Type 0} (f : X → Y) (xs : List X) (ys zs : List Y) → map f xs ≡ ys ++ zs → MapParts f xs ys zs
map-parts f xs [] zs e = record { left = []; right = xs; is = refl; first = refl; second = e }
map-parts f [] (y ∷ ys) zs e = absurd (cc)
map-parts f (x ∷ xs) (y ∷ ys) zs e =
    let b = cons-parts e in
    let r = map-parts f xs ys zs b.1 in
    record {
      left = x ∷ r.left;
      right = r.right;
      is = ap (λ l. x ∷ l) r.is;
      first = let p = b.0 in let q = r.first in
          cc;
      second = r.second;
    }

-- a list that is not empty has a last element
pub snoc : {X : Type 0} (x : X) (xs : List X) → (front : List X) × (last : X) × (x ∷ xs ≡ front ++ last ∷ [])
snoc x [] = ([], x, refl)
snoc x (y ∷ ys) = let r = snoc y ys in (x ∷ r.0, r.1, ap (λ l. x ∷ l) r.2)

-- the element after a front of known length is at that length
pub get-after : {X : Type 0} (front : List X) (x : X) (back : List X) (n : ℕ) → n ≡ length front
    → slice_get (front ++ x ∷ back) n ≡ Some x
get-after [] x back zero e = refl
get-after [] x back (suc n) e = absurd (omega arith)
get-after (y ∷ front) x back zero e = absurd (omega arith)
get-after (y ∷ front) x back (suc n) e = get-after front x back n (omega arith)

module _ (A : Type 0) where
  -- the numbers of children after a front of branches
  pub child-numbers : (h : ℕ) (bs : List (A × Subtree A h)) → map {B = ℕ} (λ b. b.1)
      (map {B = A × ℕ} (λ (b : A × Subtree A h). (b.0, id_of A h b.1)) bs) ≡ map {B = ℕ}
      (λ (b : A × Subtree A h). id_of A h b.1) bs
  child-numbers h [] = refl
  child-numbers h (b ∷ bs) = ap (λ l. id_of A h b.1 ∷ l) (child-numbers h bs)

  all-branches : (P : A → Type 0) (h : ℕ) (bs : List (A × Subtree A h)) → AllByRecursion P (later_items A h bs)
      → AllByRecursion P (map {B = A} (λ (b : A × Subtree A h). b.0) bs)
  all-branches P h [] a = tt
  all-branches P h (b ∷ bs) a =
      (a.0, all-branches P h bs (AllByRecursion-right P (items_under A h b.1) (later_items A h bs) a.1))

module _ {K : Type 0} (V : Type 0) (cmp : K → K → Ordering) where
  branches-rise : (h : ℕ) (bs : List ((K × V) × Subtree (K × V) h)) → Rises cmp (later_items (K × V) h bs) → Rises cmp
      (map {B = K × V} (λ (b : (K × V) × Subtree (K × V) h). b.0) bs)
  branches-rise h [] up = tt
  branches-rise h (b ∷ bs) up = (
    all-branches (K × V) (λ y. cmp b.0.0 y.0 ≡ Less) h bs
        (AllByRecursion-right (λ y. cmp b.0.0 y.0 ≡ Less) (items_under (K × V) h b.1) (later_items (K × V) h bs) up.0),
    branches-rise h bs (rises-right cmp (items_under (K × V) h b.1) (later_items (K × V) h bs) up.1),
  )

  -- the items of a node ascend if those of its subtree do
  pub items-rise : (h : ℕ) (p : Option ℕ) (t : Subtree (K × V) h) → Rises cmp (items_under (K × V) h t)
      → Rises cmp (items_of (view_at (K × V) h p t))
  items-rise zero p t up = up
  items-rise (suc h) p t up =
      subst (λ l. Rises cmp l) (sym (view-items (K × V) h t.2))
      (branches-rise h t.2 (rises-right cmp (items_under (K × V) h t.1) (later_items (K × V) h t.2) up))

module _ {K Q V : Type 0} (cmp : K → Q → Ordering) where
  module _ (k : Q) {ord : K → K → Ordering} (cut : Cuts ord cmp) (node_at : NodeMap (K × V)) (root : ℕ) (xs : List (K × V))
      (up : Rises ord xs) (within : List (K × V)) (start : ℕ) where
    pub record Down (id child : ℕ) : Type 0 where
      pub next : IsSearching cmp k node_at root xs within start child
      pub smaller : levels_below node_at (length xs) child < levels_below node_at (length xs) id

    abbrev A : Type 0
    A = K × V

    -- the items among which the search is ascend
    pub part-rises : (h : ℕ) (c : Path A h) (t : Subtree A h) → IsFocus A node_at [] root xs h c t
        → IsPart c (items_under A h t) within start → Rises ord within
    part-rises h c t w p =
        let e : xs ≡ p.front ++ (within ++ p.back) = w.list ∙ rw (p.before, p.after, p.is) (simp append_assoc) in
        rises-left ord within p.back (rises-right ord p.front (within ++ p.back) (subst (λ l. Rises ord l) e up))

    pub hole-rises : (h : ℕ) (c : Path A h) (t : Subtree A h) → IsFocus A node_at [] root xs h c t
        → Rises ord (items_under A h t)
    hole-rises h c t w =
        rises-left ord (items_under A h t) (items_after c)
        (rises-right ord (items_before c) (items_under A h t ++ items_after c) (subst (λ l. Rises ord l) w.list up))

    -- the items of a node that a search comes to are in order
    pub search-ascends : (id : ℕ) → IsSearching cmp k node_at root xs within start id → (v : View A) → node_at id ≡ Some v
        → Ascends ord (items_of v)
    search-ascends id s v e = at s.node.focus.height s.node.focus.path s.node.focus.subtree s.node.focus.here s.node.focus.whole
      where
        at : (h : ℕ) (c : Path A h) (t : Subtree A h) → id_of A h t ≡ id → IsFocus A node_at [] root xs h c t
            → Ascends ord (items_of v)
        at h c t here w =
            let d = top-view A node_at h (parent_above c) t w.inner in
            let e2 : node_at (id_of A h t) ≡ Some v = rw here e in
            let is : view_at A h (parent_above c) t ≡ v = cc in
            ascends ord (items_of v)
            (subst (λ u. Rises ord (items_of u)) is (items-rise V ord h (parent_above c) t (hole-rises h c t w)))

    go-down : (h : ℕ) (f : Frame A h) (c : Path A (suc h)) (t : Subtree A h)
        → IsFocus A node_at [] root xs (suc h) c (fill f t)
        → IsFilled (least_at c) (suc h) (count_at A (suc h) (fill f t))
        → (p : IsPart c (items_under A (suc h) (fill f t)) within start) → AreBelow cmp k (p.lower ++ before_in f)
        → AreAbove cmp k (after_in f ++ p.higher)
        → Down (frame_id f) (id_of A h t)
    go-down h f c t w z p low high =
        let d = descend A node_at [] root xs h f c t w z in
        let e = height-fits A c (fill f t) w z in
        let focus : HasFocus A node_at [] root xs (id_of A h t) =
        record { height = h; path = under f c; subtree = t; here = refl; whole = d.0 } in
        let node : IsNode A node_at root xs (id_of A h t) = record { focus = focus; sized = d.1 } in
        let part : IsPart (under f c) (items_under A h t) within start =
        record {
          front = p.front;
          lower = p.lower ++ before_in f;
          higher = after_in f ++ p.higher;
          back = p.back;
          before = ap (λ l. l ++ before_in f) p.before ∙ append_assoc p.front p.lower (before_in f);
          after = ap (λ l. after_in f ++ l) p.after ∙ sym (append_assoc (after_in f) p.higher p.back);
          is = p.is ∙ (ap (λ l. p.lower ++ (l ++ p.higher)) (fill-items A h f t) ∙ simp append_assoc);
          counted = p.counted;
        } in
        record {
          next = record { node = node; part = part; low = low; high = high };
          smaller =
              let u = levels-is A node_at h (length xs) (Some (frame_id f)) t (omega arith) d.0.inner in
              let v = levels-is A node_at (suc h) (length xs) (parent_above c) (fill f t) (omega arith) w.inner in
              let v' = subst (λ n. levels_below node_at (length xs) n ≡ suc h) (fill-id A h f t) v in
              omega arith;
        }

    low-of : (h : ℕ) (c : Path A (suc h)) (n : ℕ) (first : Subtree A h) (front : List (A × Subtree A h)) (x : A)
        (u : Subtree A h) (back : List (A × Subtree A h))
        → Rises ord within → (p : IsPart c (items_under A (suc h) (n, first, front ++ (x, u) ∷ back)) within start)
        → side cmp k x ≡ Less
        → AreBelow cmp k (p.lower ++ ((items_under A h first ++ later_items A h front) ++ x ∷ []))
    low-of h c n first front x u back rise p l =
        let ps : List A = p.lower ++ (items_under A h first ++ later_items A h front) in
        let qs : List A = (items_under A h u ++ later_items A h back) ++ p.higher in
        let e : within ≡ ps ++ x ∷ qs = p.is ∙ simp (flat_map-append, append_assoc) in
        subst (λ ys. AreBelow cmp k ys) (append_assoc p.lower (items_under A h first ++ later_items A h front) (x ∷ []))
        (AllByRecursion-append (λ y. side cmp k y ≡ Less) ps (x ∷ [])
        (below-pivot cmp k cut ps x qs (subst (λ ys. Rises ord ys) e rise) l) (l, tt))

    later-above : (h : ℕ) (ps : List A) (bs : List (A × Subtree A h)) (qs : List A)
        → Rises ord (ps ++ (later_items A h bs ++ qs))
        → AreAbove cmp k (map {B = A} (λ (b : A × Subtree A h). b.0) bs) → AreAbove cmp k qs → AreAbove cmp k
        (later_items A h bs ++ qs)
    later-above h ps [] qs a g q = q
    later-above h ps (b ∷ bs) qs a g q =
        above-pivot cmp k cut b.0 ((items_under A h b.1 ++ later_items A h bs) ++ qs)
        (rises-right ord ps (b.0 ∷ ((items_under A h b.1 ++ later_items A h bs) ++ qs)) a) g.0

    high-of : (h : ℕ) (f : Frame A h) (c : Path A (suc h)) (t : Subtree A h) (back : List (A × Subtree A h))
        → after_in f ≡ later_items A h back
        → Rises ord within → (p : IsPart c (items_under A (suc h) (fill f t)) within start)
        → AreAbove cmp k (map {B = A} (λ (b : A × Subtree A h). b.0) back)
        → AreAbove cmp k p.higher → AreAbove cmp k (after_in f ++ p.higher)
    high-of h f c t back is rise p g high =
        let ps : List A = p.lower ++ (before_in f ++ items_under A h t) in
        let e : within ≡ ps ++ (later_items A h back ++ p.higher) =
        p.is ∙ (ap (λ ys. p.lower ++ (ys ++ p.higher)) (fill-items A h f t) ∙ rw is (simp append_assoc))
        in
        rw is (later-above h ps back p.higher (subst (λ ys. Rises ord ys) e rise) g high)

    -- down to the child at an index; `left` are the branches before it
    at-child : (h : ℕ) (c : Path A (suc h)) (t : Subtree A (suc h)) → IsFocus A node_at [] root xs (suc h) c t
        → IsFilled (least_at c) (suc h) (count_at A (suc h) t)
        → (p : IsPart c (items_under A (suc h) t) within start) → AreBelow cmp k p.lower → AreAbove cmp k p.higher
        → (child : ℕ) (left right : List (A × Subtree A h)) → t.2 ≡ left ++ right
        → slice_get (id_of A h t.1 ∷ map {B = ℕ} (λ (b : A × Subtree A h). id_of A h b.1) (left ++ right))
        (length left) ≡ Some child
        → AreBelow cmp k (map {B = A} (λ (b : A × Subtree A h). b.0) left) → AreAbove cmp k
        (map {B = A} (λ (b : A × Subtree A h). b.0) right) → Down t.0 child
    at-child h c t w z p low high child [] right is get l g =
        let f : Frame A h = at_first t.0 t.2 in
        let e : id_of A h t.1 ≡ child = cc in
        let g' : AreAbove cmp k (map {B = A} (λ (b : A × Subtree A h). b.0) t.2) = rw is g in
        let rise = part-rises (suc h) c t w p in
        rw (← e) (go-down h f c t.1 w z p (rw (append-nil p.lower) low) (high-of h f c t.1 t.2 refl rise p g' high))
    at-child h c t w z p low high child (y ∷ left) right is get l g =
        let r = snoc y left in
        let x : A = r.1.0 in
        let u : Subtree A h = r.1.1 in
        let f : Frame A h = at_branch t.0 t.1 r.0 x right in
        let e3 : t.2 ≡ r.0 ++ (x, u) ∷ right = is ∙ (ap (λ z. z ++ right) r.2 ∙ append_assoc r.0 ((x, u) ∷ []) right) in
        let w' : IsFocus A node_at [] root xs (suc h) c (fill f u) =
        subst (λ bs. IsFocus A node_at [] root xs (suc h) c (t.0, t.1, bs)) e3 w in
        let z' : IsFilled (least_at c) (suc h) (count_at A (suc h) (fill f u)) =
        subst (λ bs. IsFilled (least_at c) (suc h) (length bs)) e3 z in
        let e4 : map {B = A} (λ (b : A × Subtree A h). b.0) (y ∷ left) ≡ map {B = A}
        (λ (b : A × Subtree A h). b.0) r.0 ++ x ∷ [] =
        ap (map {B = A} (λ (b : A × Subtree A h). b.0)) r.2 ∙ map-append (λ (b : A × Subtree A h). b.0) r.0 ((x, u) ∷ []) in
        let lx =
        (AllByRecursion-right (λ y. side cmp k y ≡ Less) (map {B = A} (λ (b : A × Subtree A h). b.0) r.0) (x ∷ [])
        (subst (λ ys. AreBelow cmp k ys) e4 l)).0 in
        let p' : IsPart c (items_under A (suc h) (fill f u)) within start =
        record {
          front = p.front;
          lower = p.lower;
          higher = p.higher;
          back = p.back;
          before = p.before;
          after = p.after;
          is = p.is ∙ ap (λ bs. p.lower ++ (items_under A (suc h) (t.0, t.1, bs) ++ p.higher)) e3;
          counted = p.counted;
        } in
        let rise = part-rises (suc h) c t w p in
        let d =
        go-down h f c u w' z' p' (low-of h c t.0 t.1 r.0 x u right rise p' lx) (high-of h f c u right refl rise p' g high)
        in
        let e5 : map {B = ℕ} (λ (b : A × Subtree A h). id_of A h b.1) ((y ∷ left) ++ right) ≡ map {B = ℕ}
        (λ (b : A × Subtree A h). id_of A h b.1) r.0 ++ id_of A h u ∷ map {B = ℕ}
        (λ (b : A × Subtree A h). id_of A h b.1) right =
        ap (λ z. map {B = ℕ} (λ (b : A × Subtree A h). id_of A h b.1) (z ++ right)) r.2
        ∙ (ap (map {B = ℕ} (λ (b : A × Subtree A h). id_of A h b.1)) (append_assoc r.0 ((x, u) ∷ []) right) ∙ map-append
        (λ (b : A × Subtree A h). id_of A h b.1) r.0 ((x, u) ∷ right)) in
        let n : length left ≡ length (map {B = ℕ} (λ (b : A × Subtree A h). id_of A h b.1) r.0) =
        (let a = ap length r.2 in let b = length-append r.0 ((x, u) ∷ []) in let m : length
        (map {B = ℕ} (λ (b : A × Subtree A h). id_of A h b.1) r.0) ≡ length r.0 = length-map r.0
        (λ (b : A × Subtree A h). id_of A h b.1) in omega arith) in
        let e6 : slice_get (map {B = ℕ} (λ (b : A × Subtree A h). id_of A h b.1) ((y ∷ left) ++ right))
        (length left) ≡ Some (id_of A h u) =
        ap (λ z. slice_get z (length left)) e5 ∙ get-after (map {B = ℕ} (λ (b : A × Subtree A h). id_of A h b.1) r.0)
        (id_of A h u) (map {B = ℕ} (λ (b : A × Subtree A h). id_of A h b.1) right) (length left) n in
        let e7 : id_of A h u ≡ child = cc in
        subst (λ z. Down t.0 z) e7 d

    -- if the key is not in the node, the search goes on at the child at its place
    pub search-down : (id : ℕ) → IsSearching cmp k node_at root xs within start id → (v : View A) → node_at id ≡ Some v → (o : ℕ)
        → place_of cmp k (items_of v) ≡ Err o
        → (child : ℕ) → slice_get (children_of v) o ≡ Some child → Down id child
    search-down id s v e o place child get = at s.node.focus.height s.node.focus.path s.node.focus.subtree s.node.focus.here
        s.node.focus.whole s.node.sized s.part s.low s.high
      where
        at : (h : ℕ) (c : Path A h) (t : Subtree A h) → id_of A h t ≡ id → IsFocus A node_at [] root xs h c t
            → IsFilled (least_at c) h (count_at A h t)
            → (p : IsPart c (items_under A h t) within start) → AreBelow cmp k p.lower → AreAbove cmp k p.higher
            → Down id child
        at zero c t here w z p low high =
            let e2 : node_at t.0 ≡ Some v = rw here e in
            let d = w.inner in
            let is : leaf (parent_above c) t.1 ≡ v = cc in
            let g : slice_get (children_of (leaf (parent_above c) t.1)) o ≡ Some child =
            subst (λ u. slice_get (children_of u) o ≡ Some child) (sym is) get in
            absurd (cc)
        at (suc h) c t here w z p low high =
            let d = w.inner.0 in
            let e2 : node_at t.0 ≡ Some v = rw here e in
            let is : view_at A (suc h) (parent_above c) t ≡ v = cc in
            let up2 = items-rise V ord (suc h) (parent_above c) t (hole-rises (suc h) c t w) in
            let place2 : place_of cmp k (items_of (view_at A (suc h) (parent_above c) t)) ≡ Err o =
            subst (λ u. place_of cmp k (items_of u) ≡ Err o) (sym is) place in
            let r = searched cmp k cut (items_of (view_at A (suc h) (parent_above c) t)) (Err o) up2 place2 in
            let q = map-parts (λ (b : A × Subtree A h). b.0) t.2 r.0 r.1 (sym (view-items A h t.2) ∙ r.2) in
            let get2 : slice_get (children_of (view_at A (suc h) (parent_above c) t)) o ≡ Some child =
            subst (λ u. slice_get (children_of u) o ≡ Some child) (sym is) get in
            let len : o ≡ length q.left =
            sym r.3 ∙ (ap length (sym q.first) ∙ length-map q.left (λ (b : A × Subtree A h). b.0)) in
            let get3 : slice_get (id_of A h t.1 ∷ map {B = ℕ} (λ (b : A × Subtree A h). id_of A h b.1)
            (q.left ++ q.right)) (length q.left) ≡ Some child =
            ap (slice_get (id_of A h t.1 ∷ map {B = ℕ} (λ (b : A × Subtree A h). id_of A h b.1) (q.left ++ q.right)))
            (sym len)
            ∙ (ap (λ (bs : List (A × Subtree A h)). slice_get
            (id_of A h t.1 ∷ map {B = ℕ} (λ (b : A × Subtree A h). id_of A h b.1) bs) o) (sym q.is)
            ∙ (ap (λ l. slice_get (id_of A h t.1 ∷ l) o) (sym (child-numbers A h t.2)) ∙ get2)) in
            subst (λ n. Down n child) here
            (at-child h c t w z p low high child q.left q.right q.is get3
            (subst (λ ys. AreBelow cmp k ys) (sym q.first) r.4)
            (subst (λ ys. AreAbove cmp k ys) (sym q.second) r.5))

  -- a search among the items under a node begins at it
  pub search-start : (k : Q) (node_at : NodeMap (K × V)) (root : ℕ) (xs : List (K × V)) (id : ℕ) (n : IsNode (K × V) node_at root xs id)
      → IsSearching cmp k node_at root xs (items_under (K × V) n.focus.height n.focus.subtree) (length (items_before n.focus.path)) id
  search-start k node_at root xs id n =
      let under : List (K × V) = items_under (K × V) n.focus.height n.focus.subtree in
      record {
        node = n;
        part = record {
          front = items_before n.focus.path;
          lower = [];
          higher = [];
          back = items_after n.focus.path;
          before = sym (append-nil (items_before n.focus.path));
          after = refl;
          is = sym (append-nil under);
          counted = refl;
        };
        low = tt;
        high = tt;
      }
