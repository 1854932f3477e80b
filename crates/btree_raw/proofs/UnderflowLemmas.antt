-- A node with an item too few and its siblings: what the step there requires, and what holds afterwards.
use Rattle.btree_raw.proofs.Common.{◌≡◌, ◌≢◌, ℕ, zero, suc, ◌+◌, ◌<◌, ◌≤◌, ◌-◌, List, [], ◌∷◌, length, Option, Some, None, IsSome, refl, sym, ap, subst, ◌∙◌, option_map, slice_get, arith, inl, inr, length-map, Content, Siblings, Address, Node, view_of, NodeMap, View, leaf, internal, children_in, children_of, parent_of, size_of, Borrows, MergesNode, size_in, times_listed, views, times_used, get-times, MergesSiblings, RotatesSiblingsLeft, RotatesSiblingsRight, AreAdjacent, FitTogether, IsFollowed, Underflows, HasCount, used-there, same-node, slice_get_within}
use Rattle.std.proofs.Common.{◌==◌}
use Rattle.std.specs.FinMap as nodes_map
use Rattle.std.specs.List.{position}
use Rattle.std.specs.Prelude.{IfSome}
use Rattle.btree_laws.specs.SiblingSteps.{Merges}
use Rattle.btree_laws.specs.UnderflowFix.{NoneSpares, child_at, from_left, from_right, with_left, with_right}
use Rattle.btree_laws.proofs.Underflow.Upward.{to-over}
use Rattle.btree_raw.specs.Underflow.{HasSiblings, IsChild, siblings_at, siblings_of}
use Rattle.btree_raw.proofs.SeparatorLemmas.{has-index, index-is}
use Rattle.btree_raw.proofs.StepLemmas.{size-at}
use Rattle.btree_laws.proofs.Underflow.Adjacent.{AdjacentSteps}
use Rattle.btree_laws.proofs.Options.{none-some}
use Rattle.btree_raw.proofs.BorrowLemmas.{followed-node, followed-under, pair}
use Rattle.std.proofs.lemmas.Option.{slice_get-get_or}

module _ {A : Type 0} where
  children-some : (v : View A) (index id : ℕ) → slice_get (children_of v) index ≡ Some id → length (children_of v) ≡ size_of v + 1
  children-some (leaf p xs) index id e = absurd (cc)
  children-some (internal p u bs) index id e = let a = length-map {A = A × ℕ} {B = A} bs (λ b. b.0) in let b = length-map {A = A × ℕ} {B = ℕ} bs (λ b. b.1) in omega arith

get-none : (xs : List ℕ) (i : ℕ) → slice_get xs i ≡ None → length xs ≤ i
get-none [] i e = omega arith
get-none (x ∷ xs) zero e = absurd (cc)
get-none (x ∷ xs) (suc i) e = let r = get-none xs i e in omega arith

get-some : (xs : List ℕ) (i : ℕ) → i < length xs → IsSome (slice_get xs i)
get-some xs i lt = rw (slice_get-get_or xs i 0 lt) refl

module _ {A : Type 0} (node_at : NodeMap A) where
  child-here : (parent index : ℕ) (node : View A) (o : Option ℕ) → node_at parent ≡ Some node → slice_get (children_of node) index ≡ o
      → child_at node_at parent index ≡ o
  child-here parent index node o here is = ap (λ v. slice_get (children_in v) index) here ∙ is

  -- no child at an index has an item to spare: there is none, or it has too few
  none-at : (parent index : ℕ) → child_at node_at parent index ≡ None → NoneSpares node_at parent index
  none-at parent index is = subst (λ o. IfSome o (λ i. size_in (node_at i) ≤ 3)) (sym is) tt

  low-at : (parent index sibling : ℕ) → child_at node_at parent index ≡ Some sibling → size_in (node_at sibling) ≤ 3 → NoneSpares node_at parent index
  low-at parent index sibling is low = subst (λ o. IfSome o (λ i. size_in (node_at i) ≤ 3)) (sym is) low

-- the index of a child and its siblings, computed from the parent
module _ {K V : Type 0} (nodes : Content (Node K V)) (parent : ℕ) where
  module _ (node : Node K V) (at : nodes_map.get nodes parent ≡ Some node) where
    here-now : views nodes parent ≡ Some (view_of node)
    here-now = ap (option_map view_of) at

    child-is : (index : ℕ) (o : Option ℕ) → o ≡ slice_get (children_of (view_of node)) index → child_at (views nodes) parent index ≡ o
    child-is index o e = child-here (views nodes) parent index (view_of node) o here-now (sym e)

    pub siblings-focus : (index : ℕ) (left right : Option ℕ) → left ≡ slice_get (children_of (view_of node)) index → right ≡ slice_get (children_of (view_of node)) (index + 1)
        → (found : Option Siblings) → found ≡ siblings_of parent index left right → found ≡ siblings_at (views nodes) parent index
    siblings-focus index left right l r found e =
        let n : suc index ≡ index + 1 = omega arith in
        let next : child_at (views nodes) parent (suc index) ≡ right = subst (λ k. child_at (views nodes) parent k ≡ right) (sym n) (child-is (index + 1) right r) in
        rw (child-is index left l, next) e

  module _ (id : ℕ) (can : IsChild (views nodes) parent id) where
    pub child-parent : 0 < times_used (views nodes parent)
    child-parent = used-there (views nodes) parent can.node can.here

    module _ (node : Node K V) (at : nodes_map.get nodes parent ≡ Some node) (o : Option ℕ)
        (is : o ≡ position (λ child. child == id) (children_of (view_of node))) where
      pub index-there : IsSome o
      index-there = has-index id (children_of (view_of node)) o
          (subst (λ v. 0 < times_listed id (children_of v)) (same-node (views nodes) parent can.node (view_of node) can.here (here-now node at)) can.child) is

      module _ (index : ℕ) (found : o ≡ Some index) where
        pub index-at : (index < length (children_of (view_of node))) × (slice_get (children_of (view_of node)) index ≡ Some id)
        index-at = index-is id index (children_of (view_of node)) (sym is ∙ found)

        module _ (after : Option Siblings) (after_is : after ≡ siblings_at (views nodes) parent index) where
          pub siblings-first : index ≡ 0 → HasSiblings (views nodes) parent id None after
          siblings-first z = record {
            index = index;
            child = child-is node at index (Some id) (sym index-at.1);
            after_is = after_is;
            before_is = λ k s. absurd (omega arith);
            first = λ z. refl;
          }

          pub siblings-next : (before : Option Siblings) → before ≡ siblings_at (views nodes) parent (index - 1) → index ≢ 0
              → HasSiblings (views nodes) parent id before after
          siblings-next before b some = record {
            index = index;
            child = child-is node at index (Some id) (sym index-at.1);
            after_is = after_is;
            before_is = λ k s. let n : index - 1 ≡ k = omega arith in subst (λ k. before ≡ siblings_at (views nodes) parent k) n b;
            first = λ z. absurd (some z);
          }

-- a step with the left sibling
module _ {A : Type 0} (node_at : NodeMap A) (siblings : Siblings) (a : Address) (s : AreAdjacent node_at siblings siblings.right a) where
  abbrev two : AdjacentSteps A node_at s.followed.root s.followed.xs s.followed.expected a s.followed.place s.followed.freed s.followed.bound
      siblings.parent siblings.index siblings.left siblings.right
  two = pair node_at siblings siblings.right a s

  pub left-few : size_in (node_at siblings.left) ≤ 3 → Underflows node_at siblings.right → FitTogether node_at siblings
  left-few low short = record {
    low = two.low;
    high = short.node;
    at_left = two.at_left;
    at_right = short.here;
    few = let e = subst (λ o. size_in o ≤ 3) two.at_left low in let f = short.few in omega arith;
  }

  -- which step it is
  module _ (none : NoneSpares node_at siblings.parent (suc (suc siblings.index))) (new : NodeMap A) where
    pub left-borrows : 3 < size_in (node_at siblings.left) → RotatesSiblingsRight node_at new siblings → Borrows node_at new siblings.parent siblings.right
    left-borrows many step = from_left siblings.index siblings.left s.at_right none (s.at_left, many) step

    pub left-merges : size_in (node_at siblings.left) ≤ 3 → MergesSiblings node_at new siblings → MergesNode node_at new siblings.parent siblings.right
    left-merges low step = with_left siblings.index siblings.left s.at_right none s.at_left (low-at node_at siblings.parent siblings.index siblings.left s.at_left low) step

-- two children that are there, as siblings
module _ (p k : ℕ) where
  record AreOf (l r : Option ℕ) (siblings : Siblings) : Type 0 where
    pub parent : siblings.parent ≡ p
    pub index : siblings.index ≡ k
    pub left : l ≡ Some siblings.left
    pub right : r ≡ Some siblings.right

  are-of : (l r : Option ℕ) (siblings : Siblings) → siblings_of p k l r ≡ Some siblings → AreOf l r siblings
  are-of None r siblings e = absurd (cc)
  are-of (Some l) None siblings e = absurd (cc)
  are-of (Some l) (Some r) siblings e =
      let q : record { parent = p; index = k; left = l; right = r } ≡ siblings = cc in
      record {
        parent = sym (ap (λ s. s.parent) q);
        index = sym (ap (λ s. s.index) q);
        left = ap (λ s. Some s.left) q;
        right = ap (λ s. Some s.right) q;
      }

  none-of : (l r : Option ℕ) (x : ℕ) → l ≡ Some x → siblings_of p k l r ≡ None → r ≡ None
  none-of None r x l e = absurd (cc)
  none-of (Some l) None x is e = refl
  none-of (Some l) (Some r) x is e = absurd (cc)

  some-of : (l r : Option ℕ) → IsSome l → IsSome r → IsSome (siblings_of p k l r)
  some-of None r a b = absurd (cc)
  some-of (Some l) None a b = absurd (cc)
  some-of (Some l) (Some r) a b = refl

-- a step at a node with a parent
module _ {A : Type 0} (node_at : NodeMap A) (id p : ℕ) (a : Address) (s : IsFollowed node_at id a) (under : option_map parent_of (node_at id) ≡ Some (Some p)) where
  abbrev at-node : (v : View A) × (node_at id ≡ Some v)
  at-node = followed-node node_at id a s

  up : parent_of at-node.0 ≡ Some p
  up = followed-under node_at id a s (Some p) under

  pub is-child : IsChild node_at p id
  is-child =
      let o = to-over A node_at s.root s.xs id s.expected a s.place s.freed s.bound s.underflow at-node.0 at-node.1 p up in
      record { node = o.node; here = o.here; child = get-times (children_of o.node) o.index id o.child }

  pub is-short : (count : ℕ) → HasCount node_at id count → count ≤ 2 → Underflows node_at id
  is-short count counted few = record { node = at-node.0; here = at-node.1; few = let e = size-at node_at id count at-node.0 at-node.1 counted in omega arith }

  module _ (before after : Option Siblings) (sib : HasSiblings node_at p id before after) where
    -- there is a child before each but the first
    before-some : (k : ℕ) → sib.index ≡ suc k → IsSome (child_at node_at p k)
    before-some k e =
        let m = slice_get_within (children_in (node_at p)) sib.index id sib.child in
        get-some (children_in (node_at p)) k (omega arith)

    both-some : (k : ℕ) → sib.index ≡ suc k → IsSome before
    both-some k e = subst (λ o. IsSome o) (sym (sib.before_is k e))
        (some-of p k (child_at node_at p k) (child_at node_at p (suc k)) (before-some k e)
        (subst (λ o. IsSome o) (sym (ap (child_at node_at p) (sym e) ∙ sib.child)) refl))

    -- without a right sibling there is a left one
    pub before-there : after ≡ None → IsSome before
    before-there none =
        let o = to-over A node_at s.root s.xs id s.expected a s.place s.freed s.bound s.underflow at-node.0 at-node.1 p up in
        let same : children_in (node_at p) ≡ children_of o.node = ap children_in o.here in
        let last = none-of p sib.index (child_at node_at p sib.index) (child_at node_at p (suc sib.index)) id sib.child (sym sib.after_is ∙ none) in
        let n = get-none (children_in (node_at p)) (suc sib.index) last in
        let m = children-some o.node sib.index id (sym (ap (λ xs. slice_get xs sib.index) same) ∙ sib.child) in
        let z = ap length same in
        let k = o.some in
        both-some (sib.index - 1) (omega arith)

    module _ (j : Siblings) (is : after ≡ Some j) where
      after-of : AreOf p sib.index (child_at node_at p sib.index) (child_at node_at p (suc sib.index)) j
      after-of = are-of p sib.index (child_at node_at p sib.index) (child_at node_at p (suc sib.index)) j (sym sib.after_is ∙ is)

      pub after-left : j.left ≡ id
      after-left = let q : Some j.left ≡ Some id = sym after-of.left ∙ sib.child in cc

      pub after-up : j.parent ≡ p
      after-up = after-of.parent

      -- what holds for the numbers in `j` holds for the child's number and its parent's
      pub as-after : (P : ℕ → ℕ → Type 0) → P j.parent j.left → P p id
      as-after P x = subst (λ n. P p n) after-left (subst (λ q. P q j.left) after-up x)

      pub after-at : child_at node_at j.parent (suc j.index) ≡ Some j.right
      after-at = rw (after-of.parent, after-of.index) after-of.right

      pub self-at : child_at node_at j.parent j.index ≡ Some j.left
      self-at = rw (after-of.parent, after-of.index) after-of.left

      abbrev pub are-after : AreAdjacent node_at j id a
      are-after = record {
        at_left = self-at;
        at_right = after-at;
        one_of = inl (sym after-left);
        under = under ∙ ap (λ q. Some (Some q)) (sym after-up);
        followed = s;
      }

      pub after-adjacent : AreAdjacent node_at j j.left a
      after-adjacent = subst (λ n. AreAdjacent node_at j n a) (sym after-left) are-after

      abbrev with-after : AdjacentSteps A node_at s.root s.xs s.expected a s.place s.freed s.bound j.parent j.index j.left j.right
      with-after = pair node_at j id a are-after

      pub after-few : (count : ℕ) → size_in (node_at j.right) ≤ 3 → HasCount node_at id count → count ≤ 2 → FitTogether node_at j
      after-few count low here short = let b = with-after in
          record {
            low = b.low;
            high = b.high;
            at_left = b.at_left;
            at_right = b.at_right;
            few = let e = subst (λ o. size_in o ≤ 3) b.at_right low in
                let f = size-at node_at j.left count b.low b.at_left (subst (λ n. HasCount node_at n count) (sym after-left) here) in omega arith;
          }

    module _ (i : Siblings) (is : before ≡ Some i) where
      before-next : (k : ℕ) → sib.index ≡ k → (0 < k) × (sib.index ≡ suc i.index)
      before-next zero e = let q = sib.first e in absurd (cc)
      before-next (suc k) e = let o = before-of k e in let n = o.index in (omega arith, omega arith)
        where
          before-of : (k : ℕ) → sib.index ≡ suc k → AreOf p k (child_at node_at p k) (child_at node_at p (suc k)) i
          before-of k e = are-of p k (child_at node_at p k) (child_at node_at p (suc k)) i (sym (sib.before_is k e) ∙ is)

      next : sib.index ≡ suc i.index
      next = (before-next sib.index refl).1

      before-of : AreOf p i.index (child_at node_at p i.index) (child_at node_at p (suc i.index)) i
      before-of = are-of p i.index (child_at node_at p i.index) (child_at node_at p (suc i.index)) i (sym (sib.before_is i.index next) ∙ is)

      pub before-right : i.right ≡ id
      before-right = let q : Some i.right ≡ Some id = sym before-of.right ∙ (ap (child_at node_at p) (sym next) ∙ sib.child) in cc

      pub before-up : i.parent ≡ p
      before-up = before-of.parent

      pub as-before : (P : ℕ → ℕ → Type 0) → P i.parent i.right → P p id
      as-before P x = subst (λ n. P p n) before-right (subst (λ q. P q i.right) before-up x)

      pub are-before : AreAdjacent node_at i i.right a
      are-before = subst (λ n. AreAdjacent node_at i n a) (sym before-right) (record {
        at_left = rw before-up before-of.left;
        at_right = rw before-up before-of.right;
        one_of = inr (sym before-right);
        under = under ∙ ap (λ q. Some (Some q)) (sym before-up);
        followed = s;
      })

      -- what holds at the index after the child's holds two after its left sibling's
      two-after : NoneSpares node_at p (suc sib.index) → NoneSpares node_at i.parent (suc (suc i.index))
      two-after none = rw (before-up, ← next) none

      pub none-after : after ≡ None → NoneSpares node_at i.parent (suc (suc i.index))
      none-after none = two-after (none-at node_at p (suc sib.index)
          (none-of p sib.index (child_at node_at p sib.index) (child_at node_at p (suc sib.index)) id sib.child (sym sib.after_is ∙ none)))

      pub low-after : (j : Siblings) → after ≡ Some j → size_in (node_at j.right) ≤ 3 → NoneSpares node_at i.parent (suc (suc i.index))
      low-after j there low = two-after (low-at node_at p (suc sib.index) j.right (after-of j there).right low)

    first-from : before ≡ None → (n : ℕ) → sib.index ≡ n → n ≡ 0
    first-from none zero e = refl
    first-from none (suc n) e = absurd (none-some before none (both-some n e))

    -- without a left sibling it is the first child
    pub first-child : before ≡ None → sib.index ≡ 0
    first-child none = first-from none sib.index refl

    -- which step it is with the right sibling
    module _ (j : Siblings) (there : after ≡ Some j) (new : NodeMap A) where
      pub right-borrows : 3 < size_in (node_at j.right) → RotatesSiblingsLeft node_at new j → Borrows node_at new p id
      right-borrows many step =
          as-after j there (Borrows node_at new) (from_right j.index j.right (self-at j there) (after-at j there, many) step)

      pub right-merges : size_in (node_at j.right) ≤ 3 → before ≡ None → MergesSiblings node_at new j → MergesNode node_at new p id
      right-merges low first step =
          let z : j.index ≡ 0 = (after-of j there).index ∙ first-child first in
          let right : child_at node_at j.parent 1 ≡ Some j.right = subst (λ k. child_at node_at j.parent (suc k) ≡ Some j.right) z (after-at j there) in
          as-after j there (MergesNode node_at new)
          (with_right j.right (subst (λ k. child_at node_at j.parent k ≡ Some j.left) z (self-at j there)) right
          (low-at node_at j.parent 1 j.right right low)
          (subst (λ k. Merges node_at new j.parent k j.left j.right) z step))
