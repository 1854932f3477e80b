-- A backward walk that starts at a key, from the root down.
use Rattle.btree_walk.proofs.Common.{[], ◌≡◌, ℕ, zero, suc, ◌+◌, ◌-◌, ◌≤◌, List, ◌∷◌, ◌++◌, length, map, take, slice_get, Option, Some, None, Result, Ok, Err, refl, sym, ap, subst, ◌∙◌, arith, append_assoc, append-nil, length_push, take_at, entries_between, IsTotalOrder, AllByRecursion, Ordering, Greater, Less, Included, Unbounded, cuts_of, place_of, Node, view_of, NodeMap, View, internal, leaf, size_of, remaining_in, represented, Rises, searched, side, AllByRecursion-append, preceding_in, row_before, with_child_before, Ancestor, TreeState, node_map, list_under}
use Rattle.std.specs.FinMap as finite
use Rattle.btree_laws.proofs.Paths.Frames.{AllByRecursion-left}
use Rattle.btree_walk.specs.AtKey.{up_to_in, up_to_place}
use Rattle.btree_walk.specs.Preceding.{branches_before}
use Rattle.btree_walk.proofs.AroundLemmas.{IsAround, between, found, inside, leaf-list, leaf-rises, parts-leaf, some-child}
use Rattle.btree_walk.proofs.AtKeyLemmas.{pair-left, pair-right}
use Rattle.btree_walk.proofs.BackLemmas.{behind, row_of}
use Rattle.btree_walk.proofs.BetweenLemmas.{up_to-hit, up_to-miss}
use Rattle.btree_walk.proofs.RowLemmas.{take-none}
use Rattle.btree_walk.proofs.WayLemmas.{AreOpen, AreUnder, Under, left, pushed, rows_by}

parts-row : {X : Type 0} (front middle : List X) (x y : X) → (front ++ x ∷ []) ++ (middle ++ y ∷ []) ≡ (front ++ x ∷ middle) ++ y ∷ []
parts-row front middle x y = simp append_assoc

-- the first branches of a row
before-front : {A : Type 0} (first : ℕ) (left right : List (A × ℕ)) (n : ℕ) → n ≡ length left
    → take n (with_child_before first (left ++ right)) ≡ with_child_before first left
before-front first [] right zero e = take-none (with_child_before first right)
before-front first [] right (suc n) e = absurd (omega arith)
before-front first (b ∷ left) right zero e = absurd (omega arith)
before-front first (b ∷ left) right (suc n) e = ap (λ l. (b.0, first) ∷ l) (before-front b.1 left right n (omega arith))

before-all : {A : Type 0} (P : ℕ → Type 0) (first : ℕ) (bs : List (A × ℕ)) → P first → AllByRecursion (λ (b : A × ℕ). P b.1) bs
    → AllByRecursion (λ (b : A × ℕ). P b.1) (with_child_before first bs)
before-all P first [] here all = tt
before-all P first (b ∷ bs) here all = (here, before-all P b.1 bs all.0 all.1)

-- the row of a node of which so many items are kept
pub row-kept : {A : Type 0} (v : View A) (p : Option ℕ) (first : ℕ) (bs : List (A × ℕ)) → v ≡ internal p first bs → (count kept : ℕ) → count ≡ size_of v
    → kept ≤ size_of v → row_before v (count - kept) ≡ take kept (with_child_before first bs)
row-kept v p first bs is count kept counted within =
    let same : size_of v - (count - kept) ≡ kept = omega arith in
    ap (λ n. take n (branches_before v)) same ∙ ap (λ u. take kept (branches_before u)) is

-- the row up to an item
before-item : {A : Type 0} (node_at : NodeMap A) (levels first : ℕ) (left : List (A × ℕ)) (b : A × ℕ)
    → preceding_in node_at levels (with_child_before first (left ++ b ∷ []))
    ≡ (represented node_at levels first ++ remaining_in node_at levels left) ++ b.0 ∷ []
before-item node_at levels first [] b =
    append-nil (represented node_at levels first ++ b.0 ∷ []) ∙ ap (λ l. l ++ b.0 ∷ []) (sym (append-nil (represented node_at levels first)))
before-item node_at levels first (c ∷ left) b =
    ap (λ l. (represented node_at levels first ++ c.0 ∷ []) ++ l) (before-item node_at levels c.1 left b)
    ∙ parts-row (represented node_at levels first) (represented node_at levels c.1 ++ remaining_in node_at levels left) c.0 b.0

module _ {K V : Type 0} (cmp : K → K → Ordering) (k : K) (tree : TreeState K V) (whole : List (K × V)) where
  -- the walk has come to node `id`: those left in the ancestors are below the key, and the items after the node are above
  pub record IsUpTo (ancestors : List (Ancestor K V)) (id : ℕ) : Type 0 where
    pub rows : AreOpen (behind tree) ancestors
    pub under : Under tree (length (rows_by (behind tree) ancestors)) id
    pub after : List (K × V)
    pub around : IsAround cmp k whole tree id (left (behind tree) ancestors) after

module _ {K V : Type 0} {cmp : K → K → Ordering} (laws : IsTotalOrder cmp) {k : K} {tree : TreeState K V} {whole : List (K × V)} (up : Rises cmp whole)
    {ancestors : List (Ancestor K V)} {id : ℕ} (d : IsUpTo cmp k tree whole ancestors id) (node : Node K V) (here : finite.get tree.nodes id ≡ Some node) where
  abbrev above : List (K × V)
  above = left (behind tree) ancestors

  -- a leaf: those left in the ancestors, and its items that are not above the key, are left
  pub up_to-leaf : (p : Option ℕ) (ys : List (K × V)) → view_of node ≡ leaf p ys → (kept : ℕ) (next : Option ℕ)
      → ◌≡◌ {A = ℕ × Option ℕ} (kept, next) (up_to_in cmp k (view_of node)) → above ++ take kept ys ≡ entries_between cmp Unbounded (Included k) whole
  up_to-leaf p ys is kept next cut = at (place_of cmp k ys) refl (rw is at cut)
    where
      rise : Rises cmp ys
      rise = leaf-rises laws up d.around d.under node here p ys is

      list : whole ≡ above ++ (ys ++ d.after)
      list = leaf-list laws up d.around d.under node here p ys is

      at : (r : Result ℕ ℕ) → place_of cmp k ys ≡ r → ◌≡◌ {A = ℕ × Option ℕ} (kept, next) (up_to_place r [])
          → above ++ take kept ys ≡ entries_between cmp Unbounded (Included k) whole
      at (Ok i) e cut =
          let s = searched cmp k (cuts_of laws) ys (Ok i) rise e in
          let long : length (s.0 ++ s.1 ∷ []) ≡ kept = let a = pair-left kept (i + 1) next None cut in let b = s.4 in let c = length_push s.0 s.1 in omega arith in
          ap (λ l. above ++ l) (ap (take kept) (s.3 ∙ sym (append_assoc s.0 (s.1 ∷ []) s.2)) ∙ take_at (s.0 ++ s.1 ∷ []) s.2 kept long)
          ∙ sym (append_assoc above s.0 (s.1 ∷ []))
          ∙ up_to-hit cmp k laws whole up (above ++ s.0) s.1 (s.2 ++ d.after) (list ∙ ap (λ l. above ++ (l ++ d.after)) s.3 ∙ parts-leaf above s.0 (s.1 ∷ s.2) d.after) s.6
      at (Err i) e cut =
          let s = searched cmp k (cuts_of laws) ys (Err i) rise e in
          let long : length s.0 ≡ kept = s.3 ∙ sym (pair-left kept i next None cut) in
          ap (λ l. above ++ l) (ap (take kept) s.2 ∙ take_at s.0 s.1 kept long)
          ∙ up_to-miss cmp k laws whole (above ++ s.0) (s.1 ++ d.after) (list ∙ ap (λ l. above ++ (l ++ d.after)) s.2 ∙ parts-leaf above s.0 s.1 d.after)
          (AllByRecursion-append (λ y. side cmp k y ≡ Less) above s.0 d.around.low s.4)
          (AllByRecursion-append (λ y. side cmp k y ≡ Greater) s.1 d.after s.5 d.around.high)

  -- an internal node
  module _ (p : Option ℕ) (first : ℕ) (bs : List ((K × V) × ℕ)) (is : view_of node ≡ internal p first bs) (kept : ℕ) (f : Ancestor K V)
      (row : row_of f ≡ take kept (with_child_before first bs)) {new : List (Ancestor K V)} (made : new ≡ ancestors ++ f ∷ []) where
    -- the children before some of the branches
    front-under : (front back : List ((K × V) × ℕ)) → bs ≡ front ++ back → AreUnder tree (suc (length (rows_by (behind tree) ancestors))) (with_child_before first front)
    front-under front back e =
        let i = inside laws up d.around d.under node here p first bs is in
        before-all (λ n. Under tree (suc (length (rows_by (behind tree) ancestors))) n) first front i.first_under
        (AllByRecursion-left (λ (b : (K × V) × ℕ). Under tree (suc (length (rows_by (behind tree) ancestors))) b.1) front back
        (subst (λ l. AreUnder tree (suc (length (rows_by (behind tree) ancestors))) l) e i.row_under))

    -- the key is in it: all that comes before the items above it is left in the ancestors
    pub up_to-found : ◌≡◌ {A = ℕ × Option ℕ} (kept, None) (up_to_in cmp k (view_of node))
        → AreOpen (behind tree) new × (left (behind tree) new ≡ entries_between cmp Unbounded (Included k) whole)
    up_to-found cut = at (place_of cmp k (map (λ b. b.0) bs)) refl (rw is at cut)
      where
        at : (r : Result ℕ ℕ) → place_of cmp k (map (λ b. b.0) bs) ≡ r → ◌≡◌ {A = ℕ × Option ℕ} (kept, None) (up_to_place r (first ∷ map (λ b. b.1) bs))
            → AreOpen (behind tree) new × (left (behind tree) new ≡ entries_between cmp Unbounded (Included k) whole)
        at (Ok i) e cut =
            let h = found laws up d.around d.under node here p first bs is i e in
            let through = h.left ++ h.branch ∷ [] in
            let whole_row : bs ≡ through ++ h.right = h.parts ∙ sym (append_assoc h.left (h.branch ∷ []) h.right) in
            let low : kept ≡ length through = let a = pair-left kept (i + 1) None None cut in let b = h.counted in let c = length_push h.left h.branch in omega arith in
            let more = pushed (behind tree) ancestors f d.rows made
            (row ∙ ap (λ l. take kept (with_child_before first l)) whole_row ∙ before-front first through h.right kept low) (front-under through h.right whole_row) in (
              more.rows,
              more.list
                  ∙ ap (λ l. above ++ l) (before-item (node_map tree) (finite.len tree.nodes) first h.left h.branch)
                  ∙ sym (append_assoc above (represented (node_map tree) (finite.len tree.nodes) first ++ remaining_in (node_map tree) (finite.len tree.nodes) h.left) (h.branch.0 ∷ []))
                  ∙ up_to-hit cmp k laws whole up (above ++ (list_under tree first ++ remaining_in (node_map tree) (finite.len tree.nodes) h.left)) h.branch.0
                  ((list_under tree h.branch.1 ++ remaining_in (node_map tree) (finite.len tree.nodes) h.right) ++ d.after) h.list h.same,
            )
        at (Err i) e cut =
            absurd (some-child laws up d.around d.under node here p first bs is i e (sym (pair-right kept i None (slice_get (first ∷ map (λ b. b.1) bs) i) cut)))

    -- the key is not in it, and the walk goes on in a child
    pub up_to-down : (child : ℕ) → ◌≡◌ {A = ℕ × Option ℕ} (kept, Some child) (up_to_in cmp k (view_of node)) → IsUpTo cmp k tree whole new child
    up_to-down child cut = at (place_of cmp k (map (λ b. b.0) bs)) refl (rw is at cut)
      where
        at : (r : Result ℕ ℕ) → place_of cmp k (map (λ b. b.0) bs) ≡ r → ◌≡◌ {A = ℕ × Option ℕ} (kept, Some child) (up_to_place r (first ∷ map (λ b. b.1) bs)) → IsUpTo cmp k tree whole new child
        at (Ok i) e cut = let no_child : Some child ≡ None = pair-right kept (i + 1) (Some child) None cut in absurd (cc)
        at (Err i) e cut =
            let get = sym (pair-right kept i (Some child) (slice_get (first ∷ map (λ b. b.1) bs) i) cut) in
            let b = between laws up d.around d.under node here p first bs is i e child get in
            let low : kept ≡ length b.left = pair-left kept i (Some child) (slice_get (first ∷ map (λ b. b.1) bs) i) cut ∙ b.counted in
            let more = pushed (behind tree) ancestors f d.rows made
            (row ∙ ap (λ l. take kept (with_child_before first l)) b.parts ∙ before-front first b.left b.right kept low) (front-under b.left b.right b.parts) in
            record {
              rows = more.rows;
              under = subst (λ n. Under tree n child) (sym more.deeper) b.under;
              after = remaining_in (node_map tree) (finite.len tree.nodes) b.right ++ d.after;
              around = subst (λ l. IsAround cmp k whole tree child l (remaining_in (node_map tree) (finite.len tree.nodes) b.right ++ d.after)) (sym more.list) b.around;
            }
