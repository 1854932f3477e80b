-- The order of the front addresses of a tree: each comes before the next by a rule.
use Rattle.btree_laws.proofs.Common.{◌≡◌, ◌<◌, ◌∙◌, [], ℕ, zero, suc, List, length, Option, Some, None, sym, ap, subst, arith, append-nil, slice_get, Address, NodeMap, View, leaf, children_in, parent_of, size_of, fronts_under, last_item, slot_before, IsFront, IsPlaced, Subtree, id_of, view_at, address_before, address_at, positions, positions_after, positions_before, Path, frame_count, frame_id, frame_index, frame_view, parent_above, top, under, IsUnsizedFocus}
use Rattle.btree_laws.specs.Visits.{VisitsFronts}
use Rattle.btree_laws.proofs.AddressLists.OfPositions.{front-positions, keep_front}
use Rattle.btree_laws.proofs.AddressLists.Neighbours.{Adjacent, adjacent-down, adjacent-node, adjacent-up, before-is, end-before, kept-parts, no-higher, node_positions-prior, start-is}
use Rattle.btree_laws.proofs.Paths.ChildFocus.{child-at, front-after, front-before}
use Rattle.btree_laws.proofs.Paths.Frames.{top-view}
use Rattle.btree_laws.proofs.AddressLists.FrontAddresses.{fronts-listed}
use Rattle.btree_laws.proofs.AddressLists.Kept.{kept}
use Rattle.btree_laws.proofs.Trees.Numbers.{used-there}
use Rattle.btree_laws.proofs.AddressLists.OnePlaceEach.{AsSubtree, ticks_of, as-subtree}
use Rattle.btree_laws.proofs.Paths.FromRoot.{node-rooted}
use Rattle.btree_laws.proofs.Trees.Sizes.{frame-size, view-parent}
use Rattle.btree_laws.proofs.AddressLists.Ends.{Begins, Ends, positions-begins-front, positions-last}

module _ {A : Type 0} (node_at : NodeMap A) (levels root : ℕ) (xs : List A) (p : IsPlaced node_at levels root xs) where
  abbrev any : (id : ℕ) → View A → Type 0
  any id node = Unit {0}

  module _ (t : AsSubtree node_at levels root xs p) where
    abbrev all : List Address
    all = kept keep_front (ticks_of node_at levels root xs p t)

    leaf-prior : (h : ℕ) (c : Path A h) (u : Subtree A h) → IsUnsizedFocus A node_at [] root xs h c u → (parent : Option ℕ) (items : List A)
        → node_at (id_of A h u) ≡ Some (leaf parent items) → (offset : ℕ) → offset < length items
        → Adjacent (slot_before (id_of A h u) offset) (address_at (id_of A h u) offset) all
    leaf-prior zero c u w parent items e offset l =
        let v = top-view A node_at 0 (parent_above c) u w.inner in
        let same : u.1 ≡ items = cc in
        adjacent-node node_at levels root xs p t keep_front (slot_before u.0 offset) (address_at u.0 offset) 0 c u w
        (node_positions-prior u.0 offset u.1 (let n = ap length same in omega arith))
    leaf-prior (suc h) c u w parent items e offset l =
        let v = top-view A node_at (suc h) (parent_above c) u w.inner in
        absurd (cc)

    -- the list begins at -1 of the node without a parent
    top-start : (h : ℕ) (c : Path A h) (u : Subtree A h) → IsUnsizedFocus A node_at [] root xs h c u → (node : View A)
        → node_at (id_of A h u) ≡ Some node → parent_of node ≡ None → Begins (address_before (id_of A h u)) all
    top-start h top u w node e none =
        subst (λ l. Begins (address_before (id_of A h u)) l)
        (sym (kept-parts node_at levels root xs p t keep_front h top u w ∙ append-nil (kept keep_front (positions A h u))))
        (positions-begins-front A h u)
    top-start h (under f c) u w node e none =
        let v = top-view A node_at h (parent_above (under f c)) u w.inner in
        let same : view_at A h (parent_above (under f c)) u ≡ node = cc in
        let q = sym (view-parent A h (parent_above (under f c)) u) ∙ ap parent_of same in
        absurd (cc)

    go-along : (id offset : ℕ) (parent : Option ℕ) (items : List A) → node_at id ≡ Some (leaf parent items) → offset < length items
        → Adjacent (slot_before id offset) (address_at id offset) all
    go-along id offset parent items e l =
        let n = node-rooted A node_at any root xs p.rooted id (used-there node_at id (leaf parent items) e) in
        subst (λ i. Adjacent (slot_before i offset) (address_at i offset) all) n.here
        (leaf-prior n.height n.path n.subtree n.focused parent items (ap node_at n.here ∙ e) offset l)

    go-down : (id offset child : ℕ) → slice_get (children_in (node_at id)) offset ≡ Some child → IsFront node_at (node_at id) (Some offset)
        → Adjacent (last_item node_at levels child) (address_at id offset) all
    go-down id offset child e l =
        let n = child-at A node_at root xs any p.rooted id offset child e in
        let low = no-higher node_at levels root xs p t n.height (under n.frame n.path) n.subtree n.focused in
        let b = p.low in
        let view = n.focused.above.0 in
        let k : offset < size_of (frame_view (parent_above n.path) n.frame (id_of A n.height n.subtree)) =
        subst (λ v. IsFront node_at v (Some offset)) view (subst (λ i. IsFront node_at (node_at i) (Some offset)) (sym n.above) l) in
        let c = frame-size A n.height (parent_above n.path) n.frame (id_of A n.height n.subtree) in
        let at = n.at in
        adjacent-up node_at levels root xs p t keep_front (last_item node_at levels child) (address_at id offset) n.height n.frame n.path n.subtree
        n.focused
        (subst (λ i. Ends (last_item node_at levels i) (kept keep_front (positions A n.height n.subtree))) n.here
        (positions-last A node_at n.height levels (Some (frame_id n.frame)) n.subtree (omega arith) n.focused.inner))
        (subst (λ i. Begins (address_at i offset) (kept keep_front (positions_after A n.frame (frame_index n.frame)))) n.above
        (subst (λ k. Begins (address_at (frame_id n.frame) k) (kept keep_front (positions_after A n.frame (frame_index n.frame)))) n.at
        (front-after A n.height n.frame (let q : frame_index n.frame < frame_count n.frame = omega arith in q))))

    go-up : (id parent index : ℕ) → slice_get (children_in (node_at parent)) index ≡ Some id
        → Adjacent (slot_before parent index) (address_before id) all
    go-up id parent index e =
        let n = child-at A node_at root xs any p.rooted parent index id e in
        adjacent-down node_at levels root xs p t keep_front (slot_before parent index) (address_before id) n.height n.frame n.path n.subtree n.focused
        (subst (λ i. Ends (slot_before i index) (kept keep_front (positions_before A n.frame))) n.above
        (subst (λ k. Ends (slot_before (frame_id n.frame) k) (kept keep_front (positions_before A n.frame))) n.at
        (front-before A n.height n.frame)))
        (subst (λ i. Begins (address_before i) (kept keep_front (positions A n.height n.subtree))) n.here (positions-begins-front A n.height n.subtree))

    go-out : (id : ℕ) (node : View A) → node_at id ≡ Some node → parent_of node ≡ None → Begins (address_before id) all
    go-out id node e none =
        let n = node-rooted A node_at any root xs p.rooted id (used-there node_at id node e) in
        subst (λ i. Begins (address_before i) all) n.here (top-start n.height n.path n.subtree n.focused node (ap node_at n.here ∙ e) none)

  in-leaf : (v : Option (View A)) (parent : Option ℕ) (items : List A) (offset : ℕ) → v ≡ Some (leaf parent items)
      → IsFront node_at v (Some offset) → offset < length items
  in-leaf v parent items offset e l = subst (λ w. IsFront node_at w (Some offset)) e l

  -- in the list of front addresses each comes after the one that a step back leads to
  pub fronts-visited : VisitsFronts node_at levels root (fronts_under node_at levels (Some root))
  fronts-visited =
      let t = as-subtree node_at levels root xs p in
      let list : List Address = fronts_under node_at levels (Some root) in
      let e : list ≡ kept keep_front (ticks_of node_at levels root xs p t) =
      subst (λ i. fronts_under node_at levels (Some i) ≡ kept keep_front (ticks_of node_at levels root xs p t)) t.here
      (front-positions node_at p.rooted.height levels None t.subtree p.low t.holds) in
      let law = fronts-listed node_at levels (Some root) xs p in
      let once = law.order.once in
      record {
        last = end-before list (last_item node_at levels root)
            (subst (λ l. Ends (last_item node_at levels root) l) (sym e)
            (subst (λ i. Ends (last_item node_at levels i) (kept keep_front (ticks_of node_at levels root xs p t))) t.here
            (positions-last A node_at p.rooted.height levels None t.subtree p.low t.holds)));
        along = λ i id offset parent items v g.
            before-is list once (slot_before id offset) (address_at id offset)
            (subst (λ l. Adjacent (slot_before id offset) (address_at id offset) l) (sym e)
            (go-along t id offset parent items v (in-leaf (node_at id) parent items offset v (law.right i (address_at id offset) g)))) i g;
        down = λ i id offset child c g.
            before-is list once (last_item node_at levels child) (address_at id offset)
            (subst (λ l. Adjacent (last_item node_at levels child) (address_at id offset) l) (sym e)
            (go-down t id offset child c (law.right i (address_at id offset) g))) i g;
        up = λ i id parent index c g.
            before-is list once (slot_before parent index) (address_before id)
            (subst (λ l. Adjacent (slot_before parent index) (address_before id) l) (sym e) (go-up t id parent index c)) i g;
        first = λ i id node v none g.
            start-is list once (address_before id) (subst (λ l. Begins (address_before id) l) (sym e) (go-out t id node v none)) i g;
      }
