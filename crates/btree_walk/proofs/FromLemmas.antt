-- A forward walk that starts at a key, from the root down.
use Rattle.btree_walk.proofs.Common.{[], ◌≡◌, ℕ, suc, List, ◌∷◌, ◌++◌, length, map, drop, slice_get, Option, Some, None, Result, Ok, Err, refl, sym, ap, subst, ◌∙◌, entries_between, IsTotalOrder, Ordering, Greater, Less, Included, Unbounded, cuts_of, place_of, Node, view_of, internal, leaf, Rises, searched, side, AllByRecursion-append, AllByRecursion-right, Ancestor, TreeState, node_map, list_under, remaining_in, preceding_in, with_child_before}
use Rattle.std.specs.FinMap as finite
use Rattle.btree_walk.specs.AtKey.{below_in, below_place}
use Rattle.btree_walk.proofs.AroundLemmas.{IsAround, between, found, inside, leaf-list, leaf-rises, parts-leaf, some-child}
use Rattle.btree_walk.proofs.AtKeyLemmas.{drop-front, pair-left, pair-right}
use Rattle.btree_walk.proofs.BetweenLemmas.{from-hit, from-miss}
use Rattle.btree_walk.proofs.WalkLemmas.{ahead, row_of}
use Rattle.btree_walk.proofs.WayLemmas.{AreOpen, AreUnder, Under, left, pushed, rows_by}

module _ {K V : Type 0} (cmp : K → K → Ordering) (k : K) (tree : TreeState K V) (whole : List (K × V)) where
  -- the walk has come to node `id`: the items before it are below the key, and those left in the ancestors are above
  pub record IsFrom (ancestors : List (Ancestor K V)) (id : ℕ) : Type 0 where
    pub rows : AreOpen (ahead tree) ancestors
    pub under : Under tree (length (rows_by (ahead tree) ancestors)) id
    pub before : List (K × V)
    pub around : IsAround cmp k whole tree id before (left (ahead tree) ancestors)

module _ {K V : Type 0} {cmp : K → K → Ordering} (laws : IsTotalOrder cmp) {k : K} {tree : TreeState K V} {whole : List (K × V)} (up : Rises cmp whole)
    {ancestors : List (Ancestor K V)} {id : ℕ} (d : IsFrom cmp k tree whole ancestors id) (node : Node K V) (here : finite.get tree.nodes id ≡ Some node) where
  abbrev above : List (K × V)
  above = left (ahead tree) ancestors

  abbrev deeper : ℕ
  deeper = suc (length (rows_by (ahead tree) ancestors))

  -- a leaf: its items that are not below the key, and those left in the ancestors, are left
  pub from-leaf : (p : Option ℕ) (ys : List (K × V)) → view_of node ≡ leaf p ys → (index : ℕ) (next : Option ℕ)
      → ◌≡◌ {A = ℕ × Option ℕ} (index, next) (below_in cmp k (view_of node)) → drop index ys ++ above ≡ entries_between cmp (Included k) Unbounded whole
  from-leaf p ys is index next cut = at (place_of cmp k ys) refl (rw is at cut)
    where
      rise : Rises cmp ys
      rise = leaf-rises laws up d.around d.under node here p ys is

      list : whole ≡ d.before ++ (ys ++ above)
      list = leaf-list laws up d.around d.under node here p ys is

      at : (r : Result ℕ ℕ) → place_of cmp k ys ≡ r → ◌≡◌ {A = ℕ × Option ℕ} (index, next) (below_place r [])
          → drop index ys ++ above ≡ entries_between cmp (Included k) Unbounded whole
      at (Ok i) e cut =
          let s = searched cmp k (cuts_of laws) ys (Ok i) rise e in
          let low : index ≡ length s.0 = pair-left index i next None cut ∙ sym s.4 in
          ap (λ l. l ++ above) (ap (drop index) s.3 ∙ drop-front s.0 (s.1 ∷ s.2) index low)
          ∙ from-hit cmp k laws whole up (d.before ++ s.0) s.1 (s.2 ++ above)
          (list ∙ ap (λ l. d.before ++ (l ++ above)) s.3 ∙ parts-leaf d.before s.0 (s.1 ∷ s.2) above) s.6
      at (Err i) e cut =
          let s = searched cmp k (cuts_of laws) ys (Err i) rise e in
          let low : index ≡ length s.0 = pair-left index i next None cut ∙ sym s.3 in
          ap (λ l. l ++ above) (ap (drop index) s.2 ∙ drop-front s.0 s.1 index low)
          ∙ from-miss cmp k laws whole (d.before ++ s.0) (s.1 ++ above)
          (list ∙ ap (λ l. d.before ++ (l ++ above)) s.2 ∙ parts-leaf d.before s.0 s.1 above)
          (AllByRecursion-append (λ y. side cmp k y ≡ Less) d.before s.0 d.around.low s.4)
          (AllByRecursion-append (λ y. side cmp k y ≡ Greater) s.1 above s.5 d.around.high)

  -- an internal node
  module _ (p : Option ℕ) (first : ℕ) (bs : List ((K × V) × ℕ)) (is : view_of node ≡ internal p first bs) (f : Ancestor K V) (row : row_of f ≡ drop f.passed bs)
      {new : List (Ancestor K V)} (made : new ≡ ancestors ++ f ∷ []) where
    -- the key is in it: all that comes after the items below it is left in the ancestors
    pub from-found : ◌≡◌ {A = ℕ × Option ℕ} (f.passed, None) (below_in cmp k (view_of node))
        → AreOpen (ahead tree) new × (left (ahead tree) new ≡ entries_between cmp (Included k) Unbounded whole)
    from-found cut = at (place_of cmp k (map (λ b. b.0) bs)) refl (rw is at cut)
      where
        at : (r : Result ℕ ℕ) → place_of cmp k (map (λ b. b.0) bs) ≡ r → ◌≡◌ {A = ℕ × Option ℕ} (f.passed, None) (below_place r (first ∷ map (λ b. b.1) bs))
            → AreOpen (ahead tree) new × (left (ahead tree) new ≡ entries_between cmp (Included k) Unbounded whole)
        at (Ok i) e cut =
            let h = found laws up d.around d.under node here p first bs is i e in
            let low : f.passed ≡ length h.left = pair-left f.passed i None None cut ∙ h.counted in
            let all = subst (λ l. AreUnder tree deeper l) h.parts (inside laws up d.around d.under node here p first bs is).row_under in
            let more = pushed (ahead tree) ancestors f d.rows made (row ∙ ap (drop f.passed) h.parts ∙ drop-front h.left (h.branch ∷ h.right) f.passed low)
            (AllByRecursion-right (λ (b : (K × V) × ℕ). Under tree deeper b.1) h.left (h.branch ∷ h.right) all) in (
              more.rows,
              more.list ∙ from-hit cmp k laws whole up (d.before ++ (list_under tree first ++ remaining_in (node_map tree) (finite.len tree.nodes) h.left)) h.branch.0
                  ((list_under tree h.branch.1 ++ remaining_in (node_map tree) (finite.len tree.nodes) h.right) ++ above) h.list h.same,
            )
        at (Err i) e cut =
            absurd (some-child laws up d.around d.under node here p first bs is i e (sym (pair-right f.passed i None (slice_get (first ∷ map (λ b. b.1) bs) i) cut)))

    -- the key is not in it, and the walk goes on in a child
    pub from-down : (child : ℕ) → ◌≡◌ {A = ℕ × Option ℕ} (f.passed, Some child) (below_in cmp k (view_of node)) → IsFrom cmp k tree whole new child
    from-down child cut = at (place_of cmp k (map (λ b. b.0) bs)) refl (rw is at cut)
      where
        at : (r : Result ℕ ℕ) → place_of cmp k (map (λ b. b.0) bs) ≡ r → ◌≡◌ {A = ℕ × Option ℕ} (f.passed, Some child) (below_place r (first ∷ map (λ b. b.1) bs)) → IsFrom cmp k tree whole new child
        at (Ok i) e cut = let no_child : Some child ≡ None = pair-right f.passed i (Some child) None cut in absurd (cc)
        at (Err i) e cut =
            let get = sym (pair-right f.passed i (Some child) (slice_get (first ∷ map (λ b. b.1) bs) i) cut) in
            let b = between laws up d.around d.under node here p first bs is i e child get in
            let low : f.passed ≡ length b.left = pair-left f.passed i (Some child) (slice_get (first ∷ map (λ b. b.1) bs) i) cut ∙ b.counted in
            let all = subst (λ l. AreUnder tree deeper l) b.parts (inside laws up d.around d.under node here p first bs is).row_under in
            let more = pushed (ahead tree) ancestors f d.rows made (row ∙ ap (drop f.passed) b.parts ∙ drop-front b.left b.right f.passed low)
            (AllByRecursion-right (λ (b : (K × V) × ℕ). Under tree deeper b.1) b.left b.right all) in
            record {
              rows = more.rows;
              under = subst (λ n. Under tree n child) (sym more.deeper) b.under;
              before = d.before ++ preceding_in (node_map tree) (finite.len tree.nodes) (with_child_before first b.left);
              around = subst (λ l. IsAround cmp k whole tree child (d.before ++ preceding_in (node_map tree) (finite.len tree.nodes) (with_child_before first b.left)) l) (sym more.list) b.around;
            }
