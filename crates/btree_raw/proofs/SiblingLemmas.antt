-- Rotations and merges of two siblings, call by call.
use Rattle.btree_raw.proofs.Common.{◌≡◌, ◌≢◌, ℕ, ◌+◌, ◌<◌, ◌≤◌, inl, inr, [], ◌∷◌, ◌++◌, Option, Some, None, IfSome, refl, sym, ap, subst, ◌∙◌, option_map, slice_get, arith, Siblings, HasChildFor, is_internal, without, NodeMap, View, children_of, items_of, as_list, times_listed, first_in, Reparents, WritesNode, times_used, one-self, listed-append, same-node, used-there, zero-or, MergesSiblings, RotatesSiblingsLeft, RotatesSiblingsRight, AreThere}
use Rattle.btree_view.specs.Edits.{joined, pushed_left, pushed_right, with_other_item}
use Rattle.btree_laws.specs.SiblingSteps.{IsRemade}
use Rattle.btree_laws.specs.Step.{Becomes}
use Rattle.btree_laws.proofs.Trees.Numbers.{used-same}
use Rattle.btree_laws.proofs.Underflow.Calls.{left-written, merge-written, right-written}
use Rattle.btree_raw.specs.NodeSteps.{AreSiblings, CanMerge, CanRotateLeft, CanRotateRight, ChangesSeparator, GainsAll, GainsFirst, GainsLast, HasSeparator, HasRoomFor, HasRoomForAll, LosesSeparator, LosesFirst, LosesLast}
use Rattle.btree_raw.proofs.SingleNodeLemmas.{first-pushed, kind-left, kind-right, remade-joined, remade-left, remade-other, remade-right, remade-without}

one-child : (child : Option ℕ) (P : ℕ → Type 0) → ((n : ℕ) → 0 < times_listed n (as_list child) → P n) → IfSome child P
one-child None P all = tt
one-child (Some n) P all = all n (omega (arith, one-self n))

-- what two siblings have in common
module _ {A : Type 0} (node_at : NodeMap A) (siblings : Siblings) (pair : AreSiblings node_at siblings) where
  pub between-here : HasSeparator node_at siblings.parent siblings.index
  between-here = record { node = pair.top; here = pair.at_parent; inner = pair.inner; most = pair.most; within = pair.within }

  between-other : (new : NodeMap A) → new siblings.parent ≡ node_at siblings.parent → HasSeparator new siblings.parent siblings.index
  between-other new e = record { node = pair.top; here = e ∙ pair.at_parent; inner = pair.inner; most = pair.most; within = pair.within }

  module _ (child : Option ℕ) (listed : (n : ℕ) → times_listed n (as_list child) ≤ times_listed n (children_of pair.low) + times_listed n (children_of pair.high)) where
    child-away : (n : ℕ) → 0 < times_listed n (as_list child) → (n ≢ siblings.parent) × (n ≢ siblings.left) × (n ≢ siblings.right)
    child-away n m = let l = listed n in let c = pair.children n (omega arith) in (c.1, c.2, c.3)

    child-there : (new : NodeMap A) → ((n : ℕ) → n ≢ siblings.parent → n ≢ siblings.left → n ≢ siblings.right → new n ≡ node_at n) → IfSome child (λ n. 0 < times_used (new n))
    child-there new still = one-child child (λ n. 0 < times_used (new n)) (λ n m.
        let l = listed n in
        let c = pair.children n (omega arith) in
        used-same node_at new n (still n c.1 c.2 c.3) c.0)

-- a rotation to the left
module _ {A : Type 0} (node_at : NodeMap A) (siblings : Siblings) (can : CanRotateLeft node_at siblings) where
  pub left-giver : 0 < times_used (node_at siblings.right)
  left-giver = used-there node_at siblings.right can.pair.high can.pair.at_right

  pub left-taker : 0 < times_used (node_at siblings.left)
  left-taker = used-there node_at siblings.left can.pair.low can.pair.at_left

  module _ (one_look : NodeMap A) (up : A) (child : Option ℕ) (a : LosesFirst node_at one_look siblings.right up child) where
    high-left : can.pair.high ≡ pushed_left up child a.rest
    high-left = same-node node_at siblings.right can.pair.high (pushed_left up child a.rest) can.pair.at_right a.was

    -- the child that moves is the first one
    pub left-first : option_map first_in (node_at siblings.right) ≡ Some child
    left-first = ap (option_map first_in) a.was ∙ ap Some (first-pushed up child a.rest a.kind)

    kind-high : HasChildFor child can.pair.high
    kind-high = a.kind ∙ sym (ap is_internal high-left ∙ kind-left up child a.rest)

    listed-left : (n : ℕ) → times_listed n (as_list child) ≤ times_listed n (children_of can.pair.low) + times_listed n (children_of can.pair.high)
    listed-left n =
        let e = ap (times_listed n) (ap children_of high-left ∙ (remade-left up child a.rest a.kind).children_are) in
        let s = listed-append n (as_list child) (children_of a.rest) in
        omega arith

    pub left-between : HasSeparator one_look siblings.parent siblings.index
    left-between = between-other node_at siblings can.pair one_look (a.writes_node.others siblings.parent (λ e. can.pair.apart.2 (sym e)))

    module _ (two : NodeMap A) (down : A) (b : ChangesSeparator one_look two siblings.parent siblings.index down up) where
      at-left : two siblings.left ≡ Some can.pair.low
      at-left = b.writes_node.others siblings.left can.pair.apart.1 ∙ (a.writes_node.others siblings.left can.pair.apart.0 ∙ can.pair.at_left)

      top-left : b.node ≡ can.pair.top
      unfolding left-between between-other
      top-left = same-node one_look siblings.parent b.node can.pair.top b.here left-between.here

      pub left-room : HasRoomFor two siblings.left child
      left-room = record { node = can.pair.low; here = at-left; room = can.room; kind = kind-high ∙ sym can.pair.one_kind }

      module _ (three : NodeMap A) (c : GainsLast two three siblings.left down child) where
        low-left : c.node ≡ can.pair.low
        low-left = same-node two siblings.left c.node can.pair.low c.here at-left

        pub left-child : IfSome child (λ n. 0 < times_used (three n))
        left-child = child-there node_at siblings can.pair child listed-left three
            (λ n np nl nr. c.writes_node.others n nl ∙ (b.writes_node.others n np ∙ a.writes_node.others n nr))

        pub rotates-left : (new : NodeMap A) → Reparents three new siblings.left (as_list child) → RotatesSiblingsLeft node_at new siblings
        rotates-left new d = record {
          top = can.pair.top;
          low = can.pair.low;
          high = can.pair.high;
          new_top = with_other_item siblings.index up can.pair.top;
          new_low = pushed_right down child can.pair.low;
          new_high = a.rest;
          down = down;
          up = up;
          child = child;
          down_is = subst (λ v. slice_get (items_of v) siblings.index ≡ Some down) top-left b.was;
          child_for = kind-high;
          top_is = remade-other siblings.index up can.pair.top;
          low_is = remade-right down child can.pair.low (kind-high ∙ sym can.pair.one_kind);
          high_is = subst (λ v. IsRemade a.rest v (up ∷ items_of a.rest) (as_list child ++ children_of a.rest)) (sym high-left) (remade-left up child a.rest a.kind);
          writes =
              left-written node_at one_look two three new siblings.parent siblings.left siblings.right can.pair.apart can.pair.top can.pair.low can.pair.high
              (with_other_item siblings.index up can.pair.top) (pushed_right down child can.pair.low) a.rest (as_list child) siblings.left
              (child-away node_at siblings can.pair child listed-left) can.pair.at_parent can.pair.at_left can.pair.at_right d a.writes_node
              (subst (λ v. WritesNode one_look two siblings.parent (with_other_item siblings.index up v)) top-left b.writes_node)
              (subst (λ v. WritesNode two three siblings.left (pushed_right down child v)) low-left c.writes_node);
        }

-- a rotation to the right
module _ {A : Type 0} (node_at : NodeMap A) (siblings : Siblings) (can : CanRotateRight node_at siblings) where
  pub right-giver : 0 < times_used (node_at siblings.left)
  right-giver = used-there node_at siblings.left can.pair.low can.pair.at_left

  pub right-taker : 0 < times_used (node_at siblings.right)
  right-taker = used-there node_at siblings.right can.pair.high can.pair.at_right

  module _ (one_look : NodeMap A) (up : A) (child : Option ℕ) (a : LosesLast node_at one_look siblings.left up child) where
    low-right : can.pair.low ≡ pushed_right up child a.rest
    low-right = same-node node_at siblings.left can.pair.low (pushed_right up child a.rest) can.pair.at_left a.was

    kind-low : HasChildFor child can.pair.low
    kind-low = a.kind ∙ sym (ap is_internal low-right ∙ kind-right up child a.rest)

    listed-right : (n : ℕ) → times_listed n (as_list child) ≤ times_listed n (children_of can.pair.low) + times_listed n (children_of can.pair.high)
    listed-right n =
        let e = ap (times_listed n) (ap children_of low-right ∙ (remade-right up child a.rest a.kind).children_are) in
        let s = listed-append n (children_of a.rest) (as_list child) in
        omega arith

    pub right-between : HasSeparator one_look siblings.parent siblings.index
    right-between = between-other node_at siblings can.pair one_look (a.writes_node.others siblings.parent (λ e. can.pair.apart.1 (sym e)))

    module _ (two : NodeMap A) (down : A) (b : ChangesSeparator one_look two siblings.parent siblings.index down up) where
      at-right : two siblings.right ≡ Some can.pair.high
      at-right = b.writes_node.others siblings.right can.pair.apart.2 ∙ (a.writes_node.others siblings.right (λ e. can.pair.apart.0 (sym e)) ∙ can.pair.at_right)

      top-right : b.node ≡ can.pair.top
      unfolding right-between between-other
      top-right = same-node one_look siblings.parent b.node can.pair.top b.here right-between.here

      pub right-same : two siblings.right ≡ node_at siblings.right
      right-same = at-right ∙ sym can.pair.at_right

      pub right-room : HasRoomFor two siblings.right child
      right-room = record { node = can.pair.high; here = at-right; room = can.room; kind = kind-low ∙ can.pair.one_kind }

      module _ (three : NodeMap A) (c : GainsFirst two three siblings.right down child) where
        high-right : c.node ≡ can.pair.high
        high-right = same-node two siblings.right c.node can.pair.high c.here at-right

        pub right-child : IfSome child (λ n. 0 < times_used (three n))
        right-child = child-there node_at siblings can.pair child listed-right three
            (λ n np nl nr. c.writes_node.others n nr ∙ (b.writes_node.others n np ∙ a.writes_node.others n nl))

        pub rotates-right : (new : NodeMap A) → Reparents three new siblings.right (as_list child) → RotatesSiblingsRight node_at new siblings
        rotates-right new d = record {
          top = can.pair.top;
          low = can.pair.low;
          high = can.pair.high;
          new_top = with_other_item siblings.index up can.pair.top;
          new_low = a.rest;
          new_high = pushed_left down child can.pair.high;
          down = down;
          up = up;
          child = child;
          down_is = subst (λ v. slice_get (items_of v) siblings.index ≡ Some down) top-right b.was;
          child_for = kind-low;
          top_is = remade-other siblings.index up can.pair.top;
          low_is = subst (λ v. IsRemade a.rest v (items_of a.rest ++ up ∷ []) (children_of a.rest ++ as_list child)) (sym low-right) (remade-right up child a.rest a.kind);
          high_is = remade-left down child can.pair.high (kind-low ∙ can.pair.one_kind);
          writes =
              right-written node_at one_look two three new siblings.parent siblings.left siblings.right can.pair.apart can.pair.top can.pair.low can.pair.high
              (with_other_item siblings.index up can.pair.top) a.rest (pushed_left down child can.pair.high) (as_list child) siblings.right
              (child-away node_at siblings can.pair child listed-right) can.pair.at_parent can.pair.at_left can.pair.at_right d a.writes_node
              (subst (λ v. WritesNode one_look two siblings.parent (with_other_item siblings.index up v)) top-right b.writes_node)
              (subst (λ v. WritesNode two three siblings.right (pushed_left down child v)) high-right c.writes_node);
        }

-- a merge
module _ {A : Type 0} (node_at : NodeMap A) (siblings : Siblings) (can : CanMerge node_at siblings) where
  pub merge-taker : 0 < times_used (node_at siblings.left)
  merge-taker = used-there node_at siblings.left can.pair.low can.pair.at_left

  apart-high : (n : ℕ) → 0 < times_listed n (children_of can.pair.high)
      → (0 < times_used (node_at n)) × (n ≢ siblings.parent) × (n ≢ siblings.left) × (n ≢ siblings.right)
  apart-high n m = can.pair.children n (omega arith)

  module _ (one_look : NodeMap A) (down : A) (a : LosesSeparator node_at one_look siblings.parent siblings.index down) where
    top-both : a.node ≡ can.pair.top
    top-both = same-node node_at siblings.parent a.node can.pair.top a.here can.pair.at_parent

    pub other-same : one_look siblings.right ≡ node_at siblings.right
    other-same = a.writes_node.others siblings.right can.pair.apart.2

    pub at-other : one_look siblings.right ≡ Some can.pair.high
    at-other = other-same ∙ can.pair.at_right

    pub other-there : 0 < times_used (one_look siblings.right)
    other-there = used-there one_look siblings.right can.pair.high at-other

    -- what the right sibling held was removed, and this is under its number then
    module _ (two : NodeMap A) {under : Option (View A)} (b : Becomes one_look two siblings.right under) (other : View A) (is : one_look siblings.right ≡ Some other) where
      same-other : other ≡ can.pair.high
      same-other = same-node one_look siblings.right other can.pair.high is at-other

      pub adopts-both : AreThere two (children_of other)
      adopts-both n m =
          let s = apart-high n (subst (λ v. 0 < times_listed n (children_of v)) same-other m) in
          used-same node_at two n (b.others n s.3 ∙ a.writes_node.others n s.1) s.0

      module _ (three : NodeMap A) (d : Reparents two three siblings.left (children_of other)) where
        moves : Reparents two three siblings.left (children_of can.pair.high)
        moves = subst (λ v. Reparents two three siblings.left (children_of v)) same-other d

        pub low-same : three siblings.left ≡ node_at siblings.left
        low-same =
            moves.kept siblings.left (elim (zero-or (times_listed siblings.left (children_of can.pair.high))) [
              | inl z ↦ z
              | inr m ↦ absurd ((apart-high siblings.left m).2 refl)
            ])
            ∙ (b.others siblings.left can.pair.apart.0 ∙ a.writes_node.others siblings.left can.pair.apart.1)

        at-low : three siblings.left ≡ Some can.pair.low
        at-low = low-same ∙ can.pair.at_left

        pub room-both : HasRoomForAll three siblings.left other
        room-both = rw same-other (record { node = can.pair.low; here = at-low; kind = sym can.pair.one_kind; room = can.room })

        pub merges : under ≡ None → (new : NodeMap A) → GainsAll three new siblings.left down other → MergesSiblings node_at new siblings
        merges none new c =
            let low-both : c.node ≡ can.pair.low = same-node three siblings.left c.node can.pair.low c.here at-low in
            let written : WritesNode three new siblings.left (joined can.pair.low down can.pair.high) =
            subst (λ v. WritesNode three new siblings.left (joined v down can.pair.high)) low-both
            (subst (λ w. WritesNode three new siblings.left (joined c.node down w)) same-other c.writes_node) in
            merge-written node_at one_look two three new siblings.parent siblings.left siblings.right can.pair.apart siblings.index can.pair.top can.pair.low can.pair.high
            (without siblings.index can.pair.top) (joined can.pair.low down can.pair.high) down (λ n m. let k = apart-high n m in (k.1, k.2, k.3))
            can.pair.at_parent can.pair.at_left can.pair.at_right (subst (λ v. slice_get (items_of v) siblings.index ≡ Some down) top-both a.was)
            (remade-without siblings.index can.pair.top can.pair.inner) (remade-joined down can.pair.low can.pair.high can.pair.one_kind)
            (subst (λ v. WritesNode node_at one_look siblings.parent (without siblings.index v)) top-both a.writes_node) (subst (λ o. Becomes one_look two siblings.right o) none b)
            moves written
