-- One step of a split upward: from a node with an item too many to its parent, or to a new root.
use Rattle.btree_laws.proofs.Common.{◌≡◌, ◌≢◌, ◌<◌, ◌≤◌, ◌++◌, ◌∷◌, [], ◌∙◌, ◌+◌, ℕ, zero, suc, List, length, map, Option, Some, None, refl, sym, ap, subst, arith, map-append, IsTrue, slice_get, Address, is_internal, with_item, NodeMap, View, children_of, internal, leaf, most_of, parent_of, size_of, MayOverflowAt, IsRepaired, moved_by_split, path_need, one, times_listed, Subtree, count_at, id_of, most_at, times_under, view_at, WritesNode, strain_of, IsAt, all_positions, Path, Frame, at_branch, at_first, fill_two, frame_count, frame_id, frame_index, frame_view, parent_above, top, under, times_used, HasFocus, IsFocus, IsNode}
use Rattle.btree_view.specs.Edits.{IsSplit}
use Rattle.btree_laws.specs.Step.{GrowsRoot, Splits}
use Rattle.btree_laws.proofs.Paths.Parents.{index-fits, index-here, index-is}
use Rattle.btree_laws.proofs.Paths.Frames.{one-self, one-zero, times_in-is, top-view, total-append}
use Rattle.btree_laws.proofs.Paths.Used.{less-no, less-yes}
use Rattle.btree_laws.proofs.Trees.Numbers.{none-listed, times-has, times-own, used-low, used-one}
use Rattle.btree_laws.proofs.Trees.Sizes.{frame-size, view-most, view-parent, view-size}
use Rattle.btree_laws.proofs.Splits.TreeAddresses.{split-keeps, split-top-keeps}
use Rattle.btree_laws.proofs.Splits.Trees.{fill_two-count, fill_two-id, fill_two-view, split-top, split-up}
use Rattle.btree_laws.proofs.Splits.TwoParts.{IsSplitOf, Parted, join, parted, split-of, times-top, times_below, total-top}
use Rattle.btree_laws.proofs.Strain.Splits.{split-root-strain, split-strain}

pub respare : (A : Type 0) (node_at : NodeMap A) (s s' : List ℕ) (root : ℕ) (xs : List A) (h : ℕ) (c : Path A h)
    (t : Subtree A h)
    → ((n : ℕ) → times_listed n s ≡ times_listed n s')
    → IsFocus A node_at s root xs h c t → IsFocus A node_at s' root xs h c t
respare A node_at s s' root xs h c t e w =
    record {
      above = w.above;
      inner = w.inner;
      once = λ n. let q = e n in omega (arith, w.once n);
      filled = w.filled;
      below = w.below;
      list = w.list;
      root_is = w.root_is;
    }

module _ (A : Type 0) where
  -- the numbers of the children are below the root of the subtree
  pub children-below : (h n : ℕ) (p : Option ℕ) (t : Subtree A h)
      → times_listed n (children_of (view_at A h p t)) ≤ times_below A h n t
  children-below zero n p t = omega arith
  children-below (suc h) n p t = omega (arith, times-top A h n t.1, total-top A h n t.2)

  path_need-some : {h : ℕ} (c : Path A h) → 0 < path_need c
  path_need-some top = omega arith
  path_need-some (under f c) = omega arith

  -- the children of the right part were the node's
  pub right-children : (n : ℕ) (v left right : View A) (median : A) → IsSplit v median left right
      → times_listed n (children_of right) ≤ times_listed n (children_of v)
  right-children n (leaf p xs) left right median s = rw s.5 (omega arith)
  right-children n (internal p first bs) left right median s =
      let k : times_listed n (map {B = ℕ} (λ b. b.1) bs) ≡ times_listed n
      (map {B = ℕ} (λ b. b.1) s.0 ++ s.1 ∷ map {B = ℕ} (λ b. b.1) s.2) =
      ap (λ (z : List (A × ℕ)). times_listed n (map {B = ℕ} (λ b. b.1) z)) s.3 ∙ ap (times_listed n)
      (map-append (λ (b : A × ℕ). b.1) s.0 ((median, s.1) ∷ s.2)) in
      let l : times_listed n (children_of right) ≡ times_listed n (s.1 ∷ map {B = ℕ} (λ b. b.1) s.2) =
      ap (λ u. times_listed n (children_of u)) s.6 in
      let q = total-append (λ i. one n i) (map {B = ℕ} (λ b. b.1) s.0) (s.1 ∷ map {B = ℕ} (λ b. b.1) s.2) in
      omega arith

  module _ (node_at : NodeMap A) (root : ℕ) (xs : List A) (id : ℕ) (spare : List ℕ) (expected : Option A) (a : Address)
      (place allocated bound : ℕ)
      (g : MayOverflowAt A node_at root xs id spare expected a place allocated bound) where
    -- the node that may overflow is stored as the focus shows it
    pub overflow-node : node_at id ≡ Some (view_at A g.focus.height (parent_above g.focus.path) g.focus.subtree)
    overflow-node = subst (λ n. node_at n ≡ Some (view_at A g.focus.height (parent_above g.focus.path) g.focus.subtree)) g.focus.here
        (top-view A node_at g.focus.height (parent_above g.focus.path) g.focus.subtree g.focus.whole.inner)

    -- the number of the node that may overflow is used
    pub overflow-used : 0 < times_used (node_at id)
    overflow-used =
        let u = used-one (node_at id) (view_at A g.focus.height (parent_above g.focus.path) g.focus.subtree) overflow-node in
        omega arith

    module _ (v : View A) (e : node_at id ≡ Some v) where
      view-is : v ≡ view_at A g.focus.height (parent_above g.focus.path) g.focus.subtree
      view-is = let n = overflow-node in cc

      size-is : size_of v ≡ count_at A g.focus.height g.focus.subtree
      size-is = ap size_of view-is ∙ view-size A g.focus.height (parent_above g.focus.path) g.focus.subtree

      most-is : most_of v ≡ most_at g.focus.height
      most-is = ap most_of view-is ∙ view-most A g.focus.height (parent_above g.focus.path) g.focus.subtree

      -- with no item too many the splits end, and no number is left
      pub overflow-done : size_of v ≤ most_of v → IsRepaired A node_at root xs expected a place allocated bound
      overflow-done low =
          let s = size-is in
          let l = most-is in
          let c : count_at A g.focus.height g.focus.subtree ≤ most_at g.focus.height = omega arith in
          let focus : HasFocus A node_at [] root xs id =
          record {
            height = g.focus.height;
            path = g.focus.path;
            subtree = g.focus.subtree;
            here = g.focus.here;
            whole = respare A node_at spare [] root xs g.focus.height g.focus.path g.focus.subtree
                (none-listed spare (g.none c)) g.focus.whole;
          } in
          let node : IsNode A node_at root xs id = record { focus = focus; sized = (g.low, c) } in
          record { id = id; node = node; there = g.there; within_strain = g.within_strain }

      pub overflow-over : most_of v < size_of v → count_at A g.focus.height g.focus.subtree ≡ suc (most_at g.focus.height)
      overflow-over lt = let s = size-is in let l = most-is in let u = g.high in omega arith

      -- with an item too many there is a number for the right part
      pub overflow-spare : most_of v < size_of v → 0 < length spare
      overflow-spare lt = let n = g.enough (overflow-over lt) in let p = path_need-some g.focus.path in omega arith

      module _ (lt : most_of v < size_of v) (rest : List ℕ) (j : ℕ)
          (is : (n : ℕ) → times_listed n spare ≡ one n j + times_listed n rest)
          (fewer : length spare ≡ suc (length rest)) where
        whole : IsFocus A node_at (j ∷ rest) root xs g.focus.height g.focus.path g.focus.subtree
        whole = respare A node_at spare (j ∷ rest) root xs g.focus.height g.focus.path g.focus.subtree is g.focus.whole

        sums : (n : ℕ) → times_under A g.focus.height n g.focus.subtree + one n j ≤ 1
        sums n = let o = whole.once n in let k = used-low (node_at n) in omega arith

        tops : (n : ℕ) → one n id ≤ times_under A g.focus.height n g.focus.subtree
        tops n = subst (λ m. one n m ≤ times_under A g.focus.height n g.focus.subtree) g.focus.here
            (times-has A g.focus.height n g.focus.subtree)

        -- the number for the right part is used
        pub spare-used : 0 < times_used (node_at j)
        spare-used = let o = whole.once j in let s = one-self j in omega arith

        -- a spare number is not that of the node that is split
        pub spare-apart : j ≢ id
        spare-apart same =
            let s = sums j in
            let u = one-self j in
            let q = tops j in let i : one j id ≡ 1 = subst (λ m. one j m ≡ 1) same (one-self j) in omega arith

        -- the children of a node that may overflow are used
        pub child-used : (n : ℕ) → 0 < times_listed n (children_of v) → 0 < times_used (node_at n)
        child-used n m =
            let b = children-below g.focus.height n (parent_above g.focus.path) g.focus.subtree in
            let q : times_listed n (children_of v) ≡ times_listed n
            (children_of (view_at A g.focus.height (parent_above g.focus.path) g.focus.subtree)) =
            ap (λ u. times_listed n (children_of u)) view-is in
            let tt2 = times-top A g.focus.height n g.focus.subtree in
            let o = whole.once n in
            omega arith

        -- a split node has neither its own number nor the spare one as a child
        pub child-apart : (times_listed id (children_of v) ≡ 0) × (times_listed j (children_of v) ≡ 0)
        child-apart = (none id (let s = one-self id in let q = one-here id in omega arith), none j (one-there j))
          where
            one-here : (n : ℕ) → one n id ≡ one n (id_of A g.focus.height g.focus.subtree)
            one-here n = ap (one n) (sym g.focus.here)

            one-there : (n : ℕ) → 1 ≤ one n (id_of A g.focus.height g.focus.subtree) + one n n
            one-there n = let s = one-self n in omega arith

            none : (n : ℕ) → 1 ≤ one n (id_of A g.focus.height g.focus.subtree) + one n j
                → times_listed n (children_of v) ≡ 0
            none n some =
                let b = children-below g.focus.height n (parent_above g.focus.path) g.focus.subtree in
                let q : times_listed n (children_of v) ≡ times_listed n
                (children_of (view_at A g.focus.height (parent_above g.focus.path) g.focus.subtree)) =
                ap (λ u. times_listed n (children_of u)) view-is in
                let t2 = times-top A g.focus.height n g.focus.subtree in
                let s = sums n in
                omega arith

        module _ (mid : NodeMap A) (x : A) (sp : Splits node_at mid id j x) where
          made : Parted A node_at mid g.focus.height (parent_above g.focus.path) g.focus.subtree j x
          made = parted A node_at mid rest root xs g.focus.height g.focus.path g.focus.subtree j x whole (overflow-over lt)
              (subst (λ n. IsSplitOf node_at mid n j x (view_at A g.focus.height (parent_above g.focus.path) g.focus.subtree))
              (sym g.focus.here)
              (split-of node_at mid id j x sp (view_at A g.focus.height (parent_above g.focus.path) g.focus.subtree) overflow-node))

          kept-is : size_of sp.left ≡ count_at A g.focus.height made.cut.left
          kept-is =
              let d = top-view A mid g.focus.height (parent_above g.focus.path) made.cut.left made.cut.left_holds in
              let d2 : mid id ≡ Some (view_at A g.focus.height (parent_above g.focus.path) made.cut.left) =
              subst (λ n. mid n ≡ Some (view_at A g.focus.height (parent_above g.focus.path) made.cut.left))
              (made.cut.cut.left_id ∙ g.focus.here) d in
              let l = sp.at_left in
              let q : sp.left ≡ view_at A g.focus.height (parent_above g.focus.path) made.cut.left = cc in
              ap size_of q ∙ view-size A g.focus.height (parent_above g.focus.path) made.cut.left

          joined : count_at A g.focus.height (join A g.focus.height made.cut.left x made.cut.right) ≡ suc
              (most_at g.focus.height)
          joined = ap (count_at A g.focus.height) (sym made.cut.cut.joined) ∙ overflow-over lt

          long : suc (length rest) ≡ path_need g.focus.path
          long = sym fewer ∙ g.enough (overflow-over lt)

          -- the parent: it is there, unchanged, with this child, and the median and the right part are inserted after
          -- the child
          pub record UpTo (p : ℕ) : Type 0 where
            pub node : View A
            pub here : mid p ≡ Some node
            pub same : node_at p ≡ Some node
            pub index : ℕ
            pub child : slice_get (children_of node) index ≡ Some id
            pub inner : IsTrue (is_internal node)
            pub room : size_of node ≤ 7
            pub within : index ≤ size_of node
            pub next : (new : NodeMap A) (k : ℕ) → slice_get (children_of node) k ≡ Some id
                → WritesNode mid new p (with_item k x (Some j) node)
                → MayOverflowAt A new root xs p rest expected (moved_by_split id j p k (size_of sp.left) a) place
                (suc allocated) bound

          -- the two parts of a split node are handed to its parent
          pub to-parent : (p : ℕ) → parent_of v ≡ Some p → UpTo p
          to-parent p up = at g.focus.height g.focus.path g.focus.subtree g.focus.here whole made long
              (ap parent_of (sym view-is) ∙ up) g.there g.within_strain kept-is joined
            where
              at : (h : ℕ) (c : Path A h) (t : Subtree A h) → id_of A h t ≡ id → IsFocus A node_at (j ∷ rest) root xs h c t
                  → (m : Parted A node_at mid h (parent_above c) t j x)
                  → suc (length rest) ≡ path_need c → parent_of (view_at A h (parent_above c) t) ≡ Some p
                  → IsAt expected a (all_positions A h c t) place → allocated + strain_of A h c t ≤ bound
                  → size_of sp.left ≡ count_at A h m.cut.left
                  → count_at A h (join A h m.cut.left x m.cut.right) ≡ suc (most_at h) → UpTo p
              at h top t here w m n q th pd ks jn = let e = view-parent A h None t in absurd (cc)
              at h (under f c) t here w m n q th pd ks jn =
                  let e = view-parent A h (Some (frame_id f)) t in
                  let ps : frame_id f ≡ p = cc in
                  let o1 = w.once (frame_id f) in
                  let k1 = used-low (node_at (frame_id f)) in
                  let s1 = one-self (frame_id f) in
                  let ti = times_in-is A h (frame_id f) f in
                  let kept : mid (frame_id f) ≡ Some (frame_view (parent_above c) f (id_of A h t)) =
                  m.kept (frame_id f) (omega arith) (one-zero (frame_id f) j (omega arith)) ∙ w.above.0 in
                  let fs = frame-size A h (parent_above c) f (id_of A h t) in
                  let fm = w.filled.0.1 in
                  let fi = index-fits A h f in
                  subst (λ z. UpTo z) ps
                  (record {
                    node = frame_view (parent_above c) f (id_of A h t);
                    here = kept;
                    same = w.above.0;
                    index = frame_index f;
                    child = index-here A h (parent_above c) f (id_of A h t) ∙ ap Some here;
                    inner = frame-inner h (parent_above c) f (id_of A h t);
                    room = omega arith;
                    within = omega arith;
                    next = λ new k ix pu. raised h f c t here w m n th pd ks jn new k ix pu;
                  })
                where
                  frame-inner : (h : ℕ) (p : Option ℕ) (f : Frame A h) (hole : ℕ)
                      → IsTrue (is_internal (frame_view p f hole))
                  frame-inner h p (at_first n back) hole = refl
                  frame-inner h p (at_branch n first front y back) hole = refl

                  raised : (h : ℕ) (f : Frame A h) (c : Path A (suc h)) (t : Subtree A h) → id_of A h t ≡ id
                      → IsFocus A node_at (j ∷ rest) root xs h (under f c) t
                      → (m : Parted A node_at mid h (Some (frame_id f)) t j x)
                      → suc (length rest) ≡ path_need (under f c) → IsAt expected a (all_positions A h (under f c) t) place
                      → allocated + strain_of A h (under f c) t ≤ bound
                      → size_of sp.left ≡ count_at A h m.cut.left
                      → count_at A h (join A h m.cut.left x m.cut.right) ≡ suc (most_at h)
                      → (new : NodeMap A) (k : ℕ)
                      → slice_get (children_of (frame_view (parent_above c) f (id_of A h t))) k ≡ Some id
                      → WritesNode mid new (frame_id f) (with_item k x (Some j) (frame_view (parent_above c) f (id_of A h t)))
                      → MayOverflowAt A new root xs (frame_id f) rest expected
                      (moved_by_split id j (frame_id f) k (size_of sp.left) a) place (suc allocated) bound
                  raised h f c t here w m n th pd ks jn new k ix pu =
                      let l = m.cut.left in
                      let r = m.cut.right in
                      let q = m.cut.cut in
                      let o = w.once (id_of A h t) in
                      let kk = used-low (node_at (id_of A h t)) in
                      let ts = times-own A h t in
                      let ti = times_in-is A h (id_of A h t) f in
                      let ki : k ≡ frame_index f =
                      index-is A h (parent_above c) f (id_of A h t) k (omega arith) (ix ∙ ap Some (sym here)) in
                      let pu2 : new (frame_id f) ≡ Some
                      (with_item k x (Some (id_of A h r)) (frame_view (parent_above c) f (id_of A h l))) =
                      rw (q.left_id, q.right_id) pu.here in
                      let pu3 : new (frame_id f) ≡ Some
                      (with_item (frame_index f) x (Some (id_of A h r))
                      (frame_view (parent_above c) f (id_of A h l))) =
                      rw (← ki) pu2 in
                      let at-parent : new (frame_id f) ≡ Some (view_at A (suc h) (parent_above c) (fill_two f l x r)) =
                      pu3 ∙ ap Some (fill_two-view A h (parent_above c) f l x r) in
                      let w' = split-up A node_at mid new rest root xs h f c t j x w m at-parent pu.others in
                      let fc = fill_two-count A h f l x r in
                      let z0 = w.filled.0.0 in
                      let z1 = w.filled.0.1 in
                      let carried = split-keeps A node_at mid rest root xs h f c t j x w m expected a place th in
                      let carried2 : IsAt expected (moved_by_split id j (frame_id f) k (size_of sp.left) a)
                      (all_positions A (suc h) c (fill_two f l x r)) place =
                      rw (← here, ki, ks) carried in
                      let st = split-strain A h l x r f c jn q.right_count in
                      let st2 : strain_of A h (under f c) t ≡ strain_of A h (under f c) (join A h l x r) =
                      ap (strain_of A h (under f c)) q.joined in
                      let focus : HasFocus A new rest root xs (frame_id f) =
                      record { height = suc h; path = c; subtree = fill_two f l x r; here = fill_two-id A h f l x r; whole = w' } in
                      record {
                        focus = focus;
                        low = omega arith;
                        high = omega arith;
                        enough = λ full. let y = less-no (frame_count f) 7 0 (path_need c) (omega arith) in omega arith;
                        none = λ few. let y = less-yes (frame_count f) 7 0 (path_need c) (omega arith) in omega arith;
                        there = carried2;
                        within_strain = omega arith;
                      }

          -- at the root one number is left, which is that of the new root
          pub root-spare : parent_of v ≡ None → (id ≡ root) × (length rest ≡ 1)
          root-spare up = at g.focus.height g.focus.path g.focus.subtree g.focus.here whole long
              (ap parent_of (sym view-is) ∙ up)
            where
              at : (h : ℕ) (c : Path A h) (t : Subtree A h) → id_of A h t ≡ id → IsFocus A node_at (j ∷ rest) root xs h c t
                  → suc (length rest) ≡ path_need c → parent_of (view_at A h (parent_above c) t) ≡ None
                  → (id ≡ root) × (length rest ≡ 1)
              at h top t here w n q = (sym here ∙ w.root_is, omega arith)
              at h (under f c) t here w n q = let e = view-parent A h (Some (frame_id f)) t in absurd (cc)

          -- the two parts of a split root are handed to a new root, which ends the repair
          pub new-root : parent_of v ≡ None → (r : ℕ) → ((n : ℕ) → times_listed n rest ≡ one n r) → (new : NodeMap A)
              → GrowsRoot mid new id j r x
              → IsRepaired A new r xs expected (moved_by_split id j r 0 (size_of sp.left) a) place (suc (suc allocated)) bound
          new-root up r ris new ra = at g.focus.height g.focus.path g.focus.subtree g.focus.here whole made
              (ap parent_of (sym view-is) ∙ up) g.there g.within_strain kept-is joined
            where
              at : (h : ℕ) (c : Path A h) (t : Subtree A h) → id_of A h t ≡ id → IsFocus A node_at (j ∷ rest) root xs h c t
                  → (m : Parted A node_at mid h (parent_above c) t j x)
                  → parent_of (view_at A h (parent_above c) t) ≡ None → IsAt expected a (all_positions A h c t) place
                  → allocated + strain_of A h c t ≤ bound
                  → size_of sp.left ≡ count_at A h m.cut.left
                  → count_at A h (join A h m.cut.left x m.cut.right) ≡ suc (most_at h)
                  → IsRepaired A new r xs expected (moved_by_split id j r 0 (size_of sp.left) a) place
                  (suc (suc allocated)) bound
              at h (under f c) t here w m q th pd ks jn = let e = view-parent A h (Some (frame_id f)) t in absurd (cc)
              at h top t here w m q th pd ks jn =
                  let l = m.cut.left in
                  let b = m.cut.right in
                  let k = m.cut.cut in
                  let w1 : IsFocus A node_at (j ∷ r ∷ []) root xs h top t =
                  respare A node_at (j ∷ rest) (j ∷ r ∷ []) root xs h top t (λ n. let z = ris n in omega arith) w in
                  let w2 =
                  split-top A node_at mid new [] r root xs h t j x w1 m (rw here ra.root) (rw here ra.at_left) ra.at_right
                  (λ n nr ni nj. ra.kept n nr (λ s. ni (s ∙ sym here)) nj) in
                  let carried = split-top-keeps A node_at mid [] root xs h t j r x w1 m expected a place th in
                  let carried2 : IsAt expected (moved_by_split id j r 0 (size_of sp.left) a)
                  (all_positions A (suc h) top (r, l, (x, b) ∷ [])) place =
                  subst (λ i. IsAt expected (moved_by_split i j r 0 (size_of sp.left) a)
                  (all_positions A (suc h) top (r, l, (x, b) ∷ [])) place) here
                  (subst (λ n. IsAt expected (moved_by_split (id_of A h t) j r 0 n a)
                  (all_positions A (suc h) top (r, l, (x, b) ∷ [])) place) (sym ks) carried) in
                  let st = split-root-strain A h l x b r jn k.right_count in
                  let st2 : strain_of A h top t ≡ strain_of A h top (join A h l x b) =
                  ap (strain_of A h top) k.joined in
                  let focus : HasFocus A new [] r xs r =
                  record { height = suc h; path = top; subtree = (r, l, (x, b) ∷ []); here = refl; whole = w2 } in
                  let node : IsNode A new r xs r = record { focus = focus; sized = (omega arith, omega arith) } in
                  record { id = r; node = node; there = carried2; within_strain = omega arith }
