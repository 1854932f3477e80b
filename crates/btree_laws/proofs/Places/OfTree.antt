-- The positions of the tree under a root, by any focus, agree with the public definitions for addresses.
use Rattle.btree_laws.proofs.Common.{◌≡◌, ◌≤◌, [], ◌∙◌, ◌+◌, ℕ, inl, inr, List, length, Option, Some, None, refl, sym, ap, subst, arith, append-nil, option_and_then, IsTotalOrder, len, Ordering, Address, NodeMap, View, item_in, size_of, IsAddressed, HasPosition, IsValid, IsWithin, item_at, Holds, Subtree, id_of, view_at, IsExpected, IsAt, positions, all_positions, Path, items_before, parent_above, top, IsNearlySized, IsOffByOne, IsRooted, IsSized, IsWellFormed, IsUnsizedFocus, IsFocus}
use Rattle.btree_laws.proofs.Paths.Frames.{top-view}
use Rattle.btree_laws.proofs.Places.NodePlaces.{items_upto}
use Rattle.btree_laws.proofs.Places.OnePlace.{one_place, one_place-well}
use Rattle.btree_laws.proofs.Places.OneList.{one-positions, plugged}
use Rattle.btree_laws.proofs.Paths.FromRoot.{node-rooted, unsized-rooted}
use Rattle.btree_laws.proofs.Trees.Sizes.{view-size}
use Rattle.btree_laws.proofs.Paths.UnsizedFocus.{unsized-root, focus-unsized}
use Rattle.btree_laws.proofs.Trees.Stores.{within-used}
use Rattle.btree_laws.proofs.Places.TreePlaces.{hole-in, in-addressed, top-item, top_item}

module _ (A : Type 0) (node_at : NodeMap A) where
  -- the positions by a focus at a node are those by a focus at the root
  pub root-positions : (spare : List ℕ) (root : ℕ) (xs : List A) (h : ℕ) (c : Path A h) (t : Subtree A h)
      → IsUnsizedFocus A node_at spare root xs h c t
      → (height : ℕ) (subtree : Subtree A height) → id_of A height subtree ≡ root → Holds A node_at height None subtree
      → all_positions A h c t ≡ positions A height subtree
  root-positions spare root xs h c t w height subtree at_root holds =
      let r = plugged A node_at h c t w.above w.inner in
      r.same
      ∙ one-positions A node_at r.height height None None r.subtree subtree (r.at_root ∙ (w.root_is ∙ sym at_root)) r.holds holds

  module _ (spare : List ℕ) (root : ℕ) (xs : List A) (expected : Option A) (a : Address) (place : ℕ) where
    -- a position by a focus is one of the tree, and the converse
    pub unsized-on : (h : ℕ) (c : Path A h) (t : Subtree A h) → IsUnsizedFocus A node_at spare root xs h c t
        → IsAt expected a (all_positions A h c t) place → HasPosition A node_at root expected a place
    unsized-on h c t w i =
        let r = plugged A node_at h c t w.above w.inner in
        record {
          height = r.height;
          subtree = r.subtree;
          at_root = r.at_root ∙ w.root_is;
          holds = r.holds;
          there =
              subst (λ z. IsAt expected a z place) r.same i;
        }

    pub on-unsized : (h : ℕ) (c : Path A h) (t : Subtree A h) → IsUnsizedFocus A node_at spare root xs h c t
        → HasPosition A node_at root expected a place → IsAt expected a (all_positions A h c t) place
    on-unsized h c t w i = subst (λ z. IsAt expected a z place)
        (sym (root-positions spare root xs h c t w i.height i.subtree i.at_root i.holds)) i.there

    pub whole-on : (h : ℕ) (c : Path A h) (t : Subtree A h) → IsFocus A node_at spare root xs h c t
        → IsAt expected a (all_positions A h c t) place → HasPosition A node_at root expected a place
    whole-on h c t w i = unsized-on h c t (focus-unsized A node_at spare root xs h c t w) i

    pub on-whole : (h : ℕ) (c : Path A h) (t : Subtree A h) → IsFocus A node_at spare root xs h c t
        → HasPosition A node_at root expected a place → IsAt expected a (all_positions A h c t) place
    on-whole h c t w i = on-unsized h c t (focus-unsized A node_at spare root xs h c t w) i

    -- an address at a position is valid, and has its place and the item that is required
    pub unsized-addressed : (h : ℕ) (c : Path A h) (t : Subtree A h) → IsUnsizedFocus A node_at spare root xs h c t
        → HasPosition A node_at root expected a place → IsAddressed A node_at root xs expected a place
    unsized-addressed h c t w i =
        let r = unsized-root A node_at spare root xs h c t w in
        let n = on-unsized r.height top r.subtree r.focused i in
        in-addressed A node_at spare root xs expected a r.height top r.subtree place place r.focused
        (subst (λ z. IsAt expected a z place) (append-nil (positions A r.height r.subtree)) n) (omega arith)

    pub whole-addressed : (h : ℕ) (c : Path A h) (t : Subtree A h) → IsFocus A node_at spare root xs h c t
        → HasPosition A node_at root expected a place → IsAddressed A node_at root xs expected a place
    whole-addressed h c t w i = unsized-addressed h c t (focus-unsized A node_at spare root xs h c t w) i

  module _ (root : ℕ) (xs : List A) (expected : Option A) (a : Address) where
    -- an address at a position of the tree is in it, with the position's place
    pub positions-addressed : (is_right : (id : ℕ) → View A → Type 0) (place : ℕ) → IsRooted is_right node_at root xs
        → HasPosition A node_at root expected a place → IsAddressed A node_at root xs expected a place
    positions-addressed is_right place r i =
        let s = unsized-rooted A node_at is_right root xs r in
        unsized-addressed [] root xs expected a place s.height top s.subtree s.focused i

    -- and the converse: a valid address is at a position, at one of its places
    pub record HasPositionOf : Type 0 where
      pub place : ℕ
      pub on : HasPosition A node_at root expected a place

    -- by a focus at its own node
    pub focus-on : (spare : List ℕ) (h : ℕ) (c : Path A h) (t : Subtree A h) → id_of A h t ≡ a.id
        → IsUnsizedFocus A node_at spare root xs h c t
        → IsWithin node_at (node_at a.id) a.offset → IsExpected expected (item_at node_at a) → HasPositionOf
    focus-on spare h c t here w l m = by a.offset refl l m
      where
        e : node_at a.id ≡ Some (view_at A h (parent_above c) t)
        e = subst (λ i. node_at i ≡ Some (view_at A h (parent_above c) t)) here
            (top-view A node_at h (parent_above c) t w.inner)

        on-at : (o : Option ℕ) → a.offset ≡ o → (p : ℕ)
            → IsAt expected (record { id = id_of A h t; offset = o }) (all_positions A h c t) p → HasPositionOf
        on-at o same p i =
            record {
              place = p;
              on = unsized-on spare root xs expected a p h c t w
                  (subst (λ q. IsAt expected (record { id = a.id; offset = q }) (all_positions A h c t) p) (sym same)
                  (subst (λ i. IsAt expected (record { id = i; offset = o }) (all_positions A h c t) p) here i));
            }

        by : (o : Option ℕ) → a.offset ≡ o → IsWithin node_at (node_at a.id) o → IsExpected expected (option_and_then (item_in (node_at a.id)) o) → HasPositionOf
        by None same k n = on-at None same (length (items_before c) + 0) (hole-in A expected h c t None tt n)
        by (Some o) same k n =
            let k2 : o ≤ size_of (view_at A h (parent_above c) t) = subst (λ v. IsWithin node_at v (Some o)) e k in
            let z = view-size A h (parent_above c) t in
            let m2 : IsExpected expected (top_item A h t (Some o)) =
            subst (λ i. IsExpected expected i) (ap (λ v. item_in v o) e ∙ top-item A h (parent_above c) t o) n in
            on-at (Some o) same (length (items_before c) + items_upto A h t o)
            (hole-in A expected h c t (Some o) (omega arith) m2)

    -- a valid address has a position, with the item that it is said to have
    pub valid-on : (is_right : (id : ℕ) → View A → Type 0) → IsRooted is_right node_at root xs
        → IsValid node_at (Some root) a.id a.offset → IsExpected expected (item_at node_at a) → HasPositionOf
    valid-on is_right r (inr none) m = let e = none.0 in absurd (cc)
    valid-on is_right r (inl l) m =
        let n = node-rooted A node_at is_right root xs r a.id (within-used node_at (node_at a.id) a.offset l) in
        focus-on [] n.height n.path n.subtree n.here n.focused l m

module _ {K V : Type 0} (cmp : K → K → Ordering) (laws : IsTotalOrder cmp) (node_at : NodeMap (K × V)) (root : ℕ)
    (xs : List (K × V)) (expected : Option (K × V)) (a : Address) (place : ℕ) where
  -- in a tree whose keys ascend an address has one place, and its position is at that place
  pub well-on : (len : ℕ) → IsWellFormed cmp node_at (Some root) len xs → IsAddressed (K × V) node_at root xs expected a place
      → HasPosition (K × V) node_at root expected a place
  well-on len w d =
      let n = valid-on (K × V) node_at root xs expected a (IsSized root) w.formed d.valid d.item in
      let q = positions-addressed (K × V) node_at root xs expected a (IsSized root) n.place w.formed n.on in
      subst (λ p. HasPosition (K × V) node_at root expected a p)
      (one_place-well cmp laws node_at xs len (Some root) w a.id a.offset n.place place q.at_place d.at_place) n.on

  pub off-on : (exempt : ℕ) → IsOffByOne cmp node_at root exempt xs → IsAddressed (K × V) node_at root xs expected a place
      → HasPosition (K × V) node_at root expected a place
  off-on exempt w d =
      let n = valid-on (K × V) node_at root xs expected a (IsNearlySized root exempt) w.rooted d.valid d.item in
      let q = positions-addressed (K × V) node_at root xs expected a (IsNearlySized root exempt) n.place w.rooted n.on in
      subst (λ p. HasPosition (K × V) node_at root expected a p)
      (one_place cmp laws node_at root exempt xs w a.id a.offset n.place place q.at_place d.at_place) n.on
