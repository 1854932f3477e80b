-- Two siblings, one of which underflows: what the steps between them require, and what holds afterwards.
use Rattle.btree_raw.proofs.Common.{◌≡◌, ◌≢◌, ℕ, suc, ◌+◌, ◌<◌, ◌≤◌, ◌^◌, ◌-◌, inl, inr, Option, Some, None, IfSome, IsSome, List, sym, ap, subst, ◌∙◌, option_map, slice_get, arith, length, Siblings, Address, with_parent, NodeMap, View, leaf, internal, children_in, children_of, most_of, size_of, parent_of, IsRepaired, MayUnderflowAt, as_list, one, times_listed, first_in, size_in, times_used, one-other, one-self, same-node, same-or, used-mapped, used-one, zero-or, MergesSiblings, RotatesSiblingsLeft, RotatesSiblingsRight, AreAdjacent, FitTogether, Underflows, PassesUnderflowUp, EndsUnderflow, IsFollowed, HasCount, levels_above}
use Rattle.btree_raw.specs.Siblings.{between}
use Rattle.btree_laws.specs.SiblingSteps.{Merges, Writes}
use Rattle.btree_laws.specs.Moved.{moved_by_merge, moved_by_rotate_left, moved_by_rotate_right}
use Rattle.btree_laws.proofs.Places.Backs.{merge-back, rotate-left-back, rotate-right-back}
use Rattle.btree_raw.specs.NodeSteps.{AreSiblings, CanMerge, CanRotateLeft, CanRotateRight}
use Rattle.btree_raw.proofs.UpwardLemmas.{back-some, some-back}
use Rattle.btree_raw.proofs.StepLemmas.{size-at}
use Rattle.btree_laws.proofs.Underflow.Adjacent.{AdjacentSteps}
use Rattle.btree_laws.proofs.Underflow.Upward.{underflow-node, to-over}

-- the node at which an underflow fix that follows an address is
module _ {A : Type 0} (node_at : NodeMap A) (id : ℕ) (a : Address) (s : IsFollowed node_at id a) where
  pub followed-node : (v : View A) × (node_at id ≡ Some v)
  followed-node = (_, underflow-node A node_at s.root s.xs id s.expected a s.place s.freed s.bound s.underflow)

  pub followed-under : (o : Option ℕ) → option_map parent_of (node_at id) ≡ Some o → parent_of followed-node.0 ≡ o
  followed-under o under = let q : Some (parent_of followed-node.0) ≡ Some o = sym (ap (option_map parent_of) followed-node.1) ∙ under in cc

module _ {A : Type 0} where
  most-some : (v : View A) → 7 ≤ most_of v
  most-some (leaf p xs) = omega arith
  most-some (internal p u bs) = omega arith

  first-is : (node_at : NodeMap A) (id : ℕ) (child : Option ℕ) (v : View A) → node_at id ≡ Some v → option_map first_in (node_at id) ≡ Some child → first_in v ≡ child
  first-is node_at id child v e l = let q : Some (first_in v) ≡ Some child = sym (ap (option_map first_in) e) ∙ l in cc

  both-used : (node_at new : NodeMap A) (n : ℕ) (v w : View A) → node_at n ≡ Some v → new n ≡ Some w → times_used (new n) ≡ times_used (node_at n)
  both-used node_at new n v w e f = let a = used-one (node_at n) v e in let b = used-one (new n) w f in omega arith

  -- a rotation keeps the numbers in use
  writes-used : (node_at new : NodeMap A) (p l r : ℕ) (top low high t2 l2 h2 : View A) (kids : List ℕ) (to : ℕ) → Writes node_at new p l r top low high t2 l2 h2 kids to
      → (n : ℕ) → times_used (new n) ≡ times_used (node_at n)
  writes-used node_at new p l r top low high t2 l2 h2 kids to w n = elim (same-or n p) [
    | inl e ↦ rw e (both-used node_at new p top t2 w.at_parent w.new_parent)
    | inr np ↦ elim (same-or n l) [
      | inl e ↦ rw e (both-used node_at new l low l2 w.at_left w.new_left)
      | inr nl ↦ elim (same-or n r) [
        | inl e ↦ rw e (both-used node_at new r high h2 w.at_right w.new_right)
        | inr nr ↦ elim (zero-or (times_listed n kids)) [
          | inl z ↦ ap times_used (w.kept n np nl nr z)
          | inr m ↦ ap times_used (w.moved n np nl nr m) ∙ used-mapped (with_parent (Some to)) (node_at n)
        ]
      ]
    ]
  ]

  -- a merge frees one number
  merge-used : (node_at new : NodeMap A) (p s l r : ℕ) → (l ≢ r) × (l ≢ p) × (r ≢ p) → Merges node_at new p s l r → (n : ℕ) → times_used (node_at n) ≡ times_used (new n) + one n r
  merge-used node_at new p s l r apart w n = elim (same-or n r) [
    | inl e ↦ rw e (let a = used-one (node_at r) w.high w.at_right in let b = ap times_used w.removed in let c = one-self r in omega arith)
    | inr nr ↦ let o = one-other n r nr in elim (same-or n p) [
      | inl e ↦ let u = both-used node_at new p w.top w.new_top w.at_parent w.new_parent in let q = subst (λ k. one k r ≡ 0) e o in rw e (omega arith)
      | inr np ↦ elim (same-or n l) [
        | inl e ↦ let u = both-used node_at new l w.low w.new_low w.at_left w.new_left in let q = subst (λ k. one k r ≡ 0) e o in rw e (omega arith)
        | inr nl ↦ elim (zero-or (times_listed n (children_of w.high))) [
          | inl z ↦ let u = ap times_used (w.kept n np nl nr z) in omega arith
          | inr m ↦ let u = ap times_used (w.moved n np nl nr m) ∙ used-mapped (with_parent (Some l)) (node_at n) in omega arith
        ]
      ]
    ]
  ]

module _ {A : Type 0} (node_at : NodeMap A) (siblings : Siblings) (id : ℕ) (a : Address) (s : AreAdjacent node_at siblings id a) where
  abbrev short-node : (v : View A) × (node_at id ≡ Some v)
  short-node = followed-node node_at id a s.followed

  short-up : parent_of short-node.0 ≡ Some siblings.parent
  short-up = followed-under node_at id a s.followed (Some siblings.parent) s.under

  -- what holds for the two in whatever tree they are
  adjacent : (root : ℕ) (xs : List A) (expected : Option A) (place freed bound : ℕ) → MayUnderflowAt A node_at root xs id expected a place freed bound
      → AdjacentSteps A node_at root xs expected a place freed bound siblings.parent siblings.index siblings.left siblings.right
  adjacent root xs expected place freed bound g =
      let o = to-over A node_at root xs id expected a place freed bound g short-node.0 short-node.1 siblings.parent short-up in
      let l : slice_get (children_of o.node) siblings.index ≡ Some siblings.left = sym (ap (λ v. slice_get (children_in v) siblings.index) o.here) ∙ s.at_left in
      let r : slice_get (children_of o.node) (suc siblings.index) ≡ Some siblings.right = sym (ap (λ v. slice_get (children_in v) (suc siblings.index)) o.here) ∙ s.at_right in
      elim s.one_of [
        | inl e ↦ subst (λ k. AdjacentSteps A node_at root xs expected a place freed bound siblings.parent siblings.index k siblings.right) e (o.after siblings.index siblings.right (l ∙ ap Some (sym e)) r)
        | inr e ↦ subst (λ k. AdjacentSteps A node_at root xs expected a place freed bound siblings.parent siblings.index siblings.left k) e (o.before siblings.index siblings.left l (r ∙ ap Some (sym e)))
      ]

  pub pair : AdjacentSteps A node_at s.followed.root s.followed.xs s.followed.expected a s.followed.place s.followed.freed s.followed.bound siblings.parent siblings.index siblings.left siblings.right
  pair = adjacent s.followed.root s.followed.xs s.followed.expected s.followed.place s.followed.freed s.followed.bound s.followed.underflow

  abbrev are-siblings : AreSiblings node_at siblings
  are-siblings = record {
    top = pair.node;
    low = pair.low;
    high = pair.high;
    at_parent = pair.at_parent;
    at_left = pair.at_left;
    at_right = pair.at_right;
    inner = pair.inner;
    one_kind = pair.one_kind;
    within = pair.between;
    most = omega (arith, pair.node_most, most-some pair.node);
    apart = pair.apart;
    children = pair.children_used;
  }

  pub index-few : siblings.index < 2 ^ 64 - 1
  index-few = omega (arith, pair.between, pair.node_most)

  count-few : (v : View A) → size_of v ≤ most_of v → size_of v ≤ 8
  count-few (leaf p xs) m = omega arith
  count-few (internal p u bs) m = omega arith

  module _ (count : ℕ) (counted : HasCount node_at siblings.left count) where
    pub count-low : count ≤ 8
    count-low = let e = size-at node_at siblings.left count pair.low pair.at_left counted in let m = count-few pair.low pair.low_most in omega arith

    module _ (child : Option ℕ) (first : option_map first_in (node_at siblings.right) ≡ Some child) where
      -- what holds for the numbers in the nodes holds for those that the call is given
      so : (g : ℕ → Option ℕ → Address) (low high : View A) → node_at siblings.left ≡ Some low → node_at siblings.right ≡ Some high → (P : Address → Type 0) → P (g (size_of low) (first_in high)) → P (g count child)
      so g low high l h P p = subst (λ n. P (g n child)) (size-at node_at siblings.left count low l counted)
          (subst (λ k. P (g (size_of low) k)) (first-is node_at siblings.right child high h first) p)

      module _ (short : Underflows node_at siblings.left) (spare : 3 < size_in (node_at siblings.right)) (new : NodeMap A) (rot : RotatesSiblingsLeft node_at new siblings) where
        pub borrowed-left : EndsUnderflow node_at new id a (between moved_by_rotate_left siblings count child a)
        borrowed-left = record {
          repaired = λ root xs expected place freed bound g.
              let b = adjacent root xs expected place freed bound g in
              so (λ n k. between moved_by_rotate_left siblings n k a) b.low b.high b.at_left b.at_right (λ v. IsRepaired A new root xs expected v place freed bound)
              (b.rotate_left new rot (subst (λ v. size_of v ≤ 2) (same-node node_at siblings.left short.node b.low short.here b.at_left) short.few)
              (subst (λ o. 3 < size_in o) b.at_right spare));
          used = writes-used node_at new siblings.parent siblings.left siblings.right rot.top rot.low rot.high rot.new_top rot.new_low rot.new_high (as_list rot.child) siblings.left rot.writes;
        }

      module _ (short : Underflows node_at siblings.right) (spare : 3 < size_in (node_at siblings.left)) (new : NodeMap A) (rot : RotatesSiblingsRight node_at new siblings) where
        pub borrowed-right : EndsUnderflow node_at new id a (between moved_by_rotate_right siblings count child a)
        borrowed-right = record {
          repaired = λ root xs expected place freed bound g.
              let b = adjacent root xs expected place freed bound g in
              so (λ n k. between moved_by_rotate_right siblings n k a) b.low b.high b.at_left b.at_right (λ v. IsRepaired A new root xs expected v place freed bound)
              (b.rotate_right new rot (subst (λ v. size_of v ≤ 2) (same-node node_at siblings.right short.node b.high short.here b.at_right) short.few)
              (subst (λ o. 3 < size_in o) b.at_left spare));
          used = writes-used node_at new siblings.parent siblings.left siblings.right rot.top rot.low rot.high rot.new_top rot.new_low rot.new_high (as_list rot.child) siblings.right rot.writes;
        }

      module _ (few : FitTogether node_at siblings) (new : NodeMap A) (mg : MergesSiblings node_at new siblings) where
        sum-few : (low high : View A) → node_at siblings.left ≡ Some low → node_at siblings.right ≡ Some high → size_of low + size_of high ≤ 5
        sum-few low high l h =
            let a1 = ap size_of (same-node node_at siblings.left few.low low few.at_left l) in
            let a2 = ap size_of (same-node node_at siblings.right few.high high few.at_right h) in
            let f = few.few in omega arith

        pub joined-both : PassesUnderflowUp node_at new id siblings.parent a (between moved_by_merge siblings count child a)
        joined-both = record {
          underflow = λ root xs expected place freed bound g.
              let b = adjacent root xs expected place freed bound g in
              let f = sum-few b.low b.high b.at_left b.at_right in
              let low = b.lower new mg f in (
                so (λ n k. between moved_by_merge siblings n k a) b.low b.high b.at_left b.at_right (λ v. MayUnderflowAt A new root xs siblings.parent expected v place (suc freed) bound) (b.merge new mg f),
                elim s.one_of [
                  | inl e ↦ subst (λ k. levels_above new (length xs) siblings.parent < levels_above node_at (length xs) k) (sym e) low.0
                  | inr e ↦ subst (λ k. levels_above new (length xs) siblings.parent < levels_above node_at (length xs) k) (sym e) low.1
                ],
              );
          removed = siblings.right;
          used = merge-used node_at new siblings.parent siblings.index siblings.left siblings.right pair.apart mg;
        }

  pub can-left : CanRotateLeft node_at siblings
  can-left = record { pair = are-siblings; room = pair.low_most }

  pub can-right : CanRotateRight node_at siblings
  can-right = record { pair = are-siblings; room = pair.high_most }

  pub can-merge : FitTogether node_at siblings → CanMerge node_at siblings
  can-merge few = record {
    pair = are-siblings;
    room =
        let a1 = ap size_of (same-node node_at siblings.left few.low pair.low few.at_left pair.at_left) in
        let a2 = ap size_of (same-node node_at siblings.right few.high pair.high few.at_right pair.at_right) in
        let f = few.few in let m = most-some pair.low in omega arith;
  }

-- an offset other than -1 stays one
module _ (siblings : Siblings) (count : ℕ) (child : Option ℕ) (a : Address) (is : IsSome a.offset) where
  none : NodeMap ℕ
  none n = None

  pub left-back : IsSome (between moved_by_rotate_left siblings count child a).offset
  left-back = some-back none (between moved_by_rotate_left siblings count child a).offset (rotate-left-back none siblings.left siblings.right siblings.parent siblings.index count child a (back-some none a.offset is))

  pub right-back : IsSome (between moved_by_rotate_right siblings count child a).offset
  right-back = some-back none (between moved_by_rotate_right siblings count child a).offset (rotate-right-back none siblings.left siblings.right siblings.parent siblings.index count child a (back-some none a.offset is))

  pub joined-back : IsSome (between moved_by_merge siblings count child a).offset
  joined-back = some-back none (between moved_by_merge siblings count child a).offset (merge-back none siblings.left siblings.right siblings.parent siblings.index count child a (back-some none a.offset is))

-- a small offset plus a few is an offset
pub offset-far : (count : ℕ) → count ≤ 8 → (o : Option ℕ) → IfSome o (λ n. n ≤ 9) → IfSome o (λ n. n + count + 1 < 2 ^ 64 - 1)
offset-far count low None few = tt
offset-far count low (Some n) few = omega arith
