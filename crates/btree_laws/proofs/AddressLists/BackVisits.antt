-- The order of the back addresses of a tree: each follows the one before it by a rule.
use Rattle.btree_laws.proofs.Common.{◌≡◌, ◌<◌, ◌∙◌, ◌+◌, [], ℕ, zero, suc, List, length, Option, Some, None, sym, ap, subst, arith, append-nil, slice_get, Address, NodeMap, View, leaf, children_in, parent_of, size_of, backs_under, first_leaf, IsPlaced, Subtree, count_at, id_of, view_at, address_at, positions, positions_after, positions_before, Path, frame_id, frame_index, parent_above, top, under, IsUnsizedFocus}
use Rattle.btree_laws.specs.Visits.{VisitsBacks}
use Rattle.btree_laws.proofs.AddressLists.OfPositions.{back-positions, keep_back}
use Rattle.btree_laws.proofs.AddressLists.Neighbours.{Adjacent, adjacent-down, adjacent-node, adjacent-up, after-is, end-is, kept-parts, no-higher, node_positions-next}
use Rattle.btree_laws.proofs.AddressLists.BackAddresses.{backs-listed}
use Rattle.btree_laws.proofs.Paths.ChildFocus.{back-after, back-before, child-at}
use Rattle.btree_laws.proofs.Paths.Frames.{top-view}
use Rattle.btree_laws.proofs.AddressLists.Kept.{kept}
use Rattle.btree_laws.proofs.Trees.Numbers.{used-there}
use Rattle.btree_laws.proofs.AddressLists.OnePlaceEach.{AsSubtree, ticks_of, as-subtree}
use Rattle.btree_laws.proofs.Paths.FromRoot.{node-rooted}
use Rattle.btree_laws.proofs.Trees.Sizes.{view-parent, view-size}
use Rattle.btree_laws.proofs.AddressLists.Ends.{Begins, Ends, positions-ends, positions-first}

module _ {A : Type 0} (node_at : NodeMap A) (levels root : ℕ) (xs : List A) (p : IsPlaced node_at levels root xs) where
  abbrev any : (id : ℕ) → View A → Type 0
  any id node = Unit {0}

  module _ (t : AsSubtree node_at levels root xs p) where
    abbrev all : List Address
    all = kept keep_back (ticks_of node_at levels root xs p t)

    leaf-next : (h : ℕ) (c : Path A h) (u : Subtree A h) → IsUnsizedFocus A node_at [] root xs h c u → (parent : Option ℕ) (items : List A)
        → node_at (id_of A h u) ≡ Some (leaf parent items) → (offset : ℕ) → offset < length items
        → Adjacent (address_at (id_of A h u) offset) (address_at (id_of A h u) (suc offset)) all
    leaf-next zero c u w parent items e offset l =
        let v = top-view A node_at 0 (parent_above c) u w.inner in
        let same : u.1 ≡ items = cc in
        adjacent-node node_at levels root xs p t keep_back (address_at u.0 offset) (address_at u.0 (suc offset)) 0 c u w
        (subst (λ o. Adjacent (address_at u.0 o) (address_at u.0 (suc o)) (kept keep_back (positions A 0 u)))
        (let q : 0 + offset ≡ offset = omega arith in q)
        (node_positions-next u.0 0 offset u.1 (let n = ap length same in omega arith)))
    leaf-next (suc h) c u w parent items e offset l =
        let v = top-view A node_at (suc h) (parent_above c) u w.inner in
        absurd (cc)

    -- the node without a parent is the root, where the list ends
    top-end : (h : ℕ) (c : Path A h) (u : Subtree A h) → IsUnsizedFocus A node_at [] root xs h c u → (node : View A)
        → node_at (id_of A h u) ≡ Some node → parent_of node ≡ None → Ends (address_at (id_of A h u) (size_of node)) all
    top-end h top u w node e none =
        let v = top-view A node_at h None u w.inner in
        let same : view_at A h None u ≡ node = cc in
        let n : count_at A h u ≡ size_of node = sym (view-size A h None u) ∙ ap size_of same in
        subst (λ o. Ends (address_at (id_of A h u) o) all) n
        (subst (λ l. Ends (address_at (id_of A h u) (count_at A h u)) l)
        (sym (kept-parts node_at levels root xs p t keep_back h top u w ∙ append-nil (kept keep_back (positions A h u)))) (positions-ends A h u))
    top-end h (under f c) u w node e none =
        let v = top-view A node_at h (parent_above (under f c)) u w.inner in
        let same : view_at A h (parent_above (under f c)) u ≡ node = cc in
        let q = sym (view-parent A h (parent_above (under f c)) u) ∙ ap parent_of same in
        absurd (cc)

    after-child : (h : ℕ) (c : Path A h) (u : Subtree A h) → IsUnsizedFocus A node_at [] root xs h c u → (id : ℕ) (node : View A)
        → id_of A h u ≡ id → node_at id ≡ Some node → count_at A h u ≡ size_of node
    after-child h c u w id node here e =
        let v = top-view A node_at h (parent_above c) u w.inner in
        let same : view_at A h (parent_above c) u ≡ node = cc in
        sym (view-size A h (parent_above c) u) ∙ ap size_of same

    go-down : (id offset child : ℕ) → slice_get (children_in (node_at id)) (suc offset) ≡ Some child
        → Adjacent (address_at id offset) (address_at (first_leaf node_at levels child) 0) all
    go-down id offset child e =
        let n = child-at A node_at root xs any p.rooted id (suc offset) child e in
        let low = no-higher node_at levels root xs p t n.height (under n.frame n.path) n.subtree n.focused in
        let l = p.low in
        adjacent-down node_at levels root xs p t keep_back (address_at id offset) (address_at (first_leaf node_at levels child) 0) n.height n.frame n.path
        n.subtree n.focused
        (subst (λ i. Ends (address_at i offset) (kept keep_back (positions_before A n.frame))) n.above (back-before A n.height n.frame offset n.at))
        (subst (λ i. Begins (address_at (first_leaf node_at levels i) 0) (kept keep_back (positions A n.height n.subtree))) n.here
        (positions-first A node_at n.height levels (Some (frame_id n.frame)) n.subtree (omega arith) n.focused.inner))

    go-up : (id offset : ℕ) (node : View A) (parent index : ℕ) → node_at id ≡ Some node → offset ≡ size_of node
        → slice_get (children_in (node_at parent)) index ≡ Some id → Adjacent (address_at id offset) (address_at parent index) all
    go-up id offset node parent index e o g =
        let n = child-at A node_at root xs any p.rooted parent index id g in
        let m = after-child n.height (under n.frame n.path) n.subtree n.focused id node n.here e in
        adjacent-up node_at levels root xs p t keep_back (address_at id offset) (address_at parent index) n.height n.frame n.path n.subtree n.focused
        (subst (λ i. Ends (address_at i offset) (kept keep_back (positions A n.height n.subtree))) n.here
        (subst (λ o. Ends (address_at (id_of A n.height n.subtree) o) (kept keep_back (positions A n.height n.subtree))) (m ∙ sym o)
        (positions-ends A n.height n.subtree)))
        (subst (λ i. Begins (address_at i index) (kept keep_back (positions_after A n.frame (frame_index n.frame)))) n.above
        (subst (λ k. Begins (address_at (frame_id n.frame) k) (kept keep_back (positions_after A n.frame (frame_index n.frame)))) n.at
        (back-after A n.height n.frame)))

    go-along : (id offset : ℕ) (parent : Option ℕ) (items : List A) → node_at id ≡ Some (leaf parent items) → offset < length items
        → Adjacent (address_at id offset) (address_at id (suc offset)) all
    go-along id offset parent items e l =
        let n = node-rooted A node_at any root xs p.rooted id (used-there node_at id (leaf parent items) e) in
        subst (λ i. Adjacent (address_at i offset) (address_at i (suc offset)) all) n.here
        (leaf-next n.height n.path n.subtree n.focused parent items (ap node_at n.here ∙ e) offset l)

    go-out : (id offset : ℕ) (node : View A) → node_at id ≡ Some node → offset ≡ size_of node → parent_of node ≡ None
        → Ends (address_at id offset) all
    go-out id offset node e o none =
        let n = node-rooted A node_at any root xs p.rooted id (used-there node_at id node e) in
        subst (λ i. Ends (address_at i offset) all) n.here
        (subst (λ o. Ends (address_at (id_of A n.height n.subtree) o) all) (sym o)
        (top-end n.height n.path n.subtree n.focused node (ap node_at n.here ∙ e) none))

  -- in the list of back addresses each is followed by the one that a step leads to
  pub backs-visited : VisitsBacks node_at levels root (backs_under node_at levels (Some root))
  backs-visited =
      let t = as-subtree node_at levels root xs p in
      let list : List Address = backs_under node_at levels (Some root) in
      let e : list ≡ kept keep_back (ticks_of node_at levels root xs p t) =
      subst (λ i. backs_under node_at levels (Some i) ≡ kept keep_back (ticks_of node_at levels root xs p t)) t.here
      (back-positions node_at p.rooted.height levels None t.subtree p.low t.holds) in
      let once = (backs-listed node_at levels (Some root) xs p).order.once in
      let begins = positions-first A node_at p.rooted.height levels None t.subtree p.low t.holds in
      record {
        first = ap (λ l. slice_get l 0) (e ∙ begins.is) ∙ ap (λ i. Some (address_at (first_leaf node_at levels i) 0)) t.here;
        along = λ i id offset parent items v l g.
            after-is list once (address_at id offset) (address_at id (suc offset))
            (subst (λ l. Adjacent (address_at id offset) (address_at id (suc offset)) l) (sym e) (go-along t id offset parent items v l)) i g;
        down = λ i id offset child c g.
            after-is list once (address_at id offset) (address_at (first_leaf node_at levels child) 0)
            (subst (λ l. Adjacent (address_at id offset) (address_at (first_leaf node_at levels child) 0) l) (sym e) (go-down t id offset child c)) i g;
        up = λ i id offset node parent index v o c g.
            after-is list once (address_at id offset) (address_at parent index)
            (subst (λ l. Adjacent (address_at id offset) (address_at parent index) l) (sym e) (go-up t id offset node parent index v o c)) i g;
        last = λ i id offset node v o none g.
            end-is list once (address_at id offset) (subst (λ l. Ends (address_at id offset) l) (sym e) (go-out t id offset node v o none)) i g;
      }
