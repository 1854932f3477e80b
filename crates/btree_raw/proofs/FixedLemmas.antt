-- An underflow fix upward: its state at a node, and its end at the root.
use Rattle.btree_raw.proofs.Common.{◌≡◌, ◌≢◌, ℕ, suc, ◌+◌, ◌<◌, ◌≤◌, inl, inr, List, [], ◌∷◌, ◌++◌, length, Option, Some, None, IfSome, IsSome, IsTrue, false, refl, sym, ap, subst, ◌∙◌, option_map, arith, length-append, Address, is_internal, with_parent, NodeMap, View, leaf, internal, children_of, parent_of, size_of, IsRepaired, Borrows, MergesNode, size_in, first_in, levels_above, times_listed, MayUnderflowAt, times_used, one-other, one-self, listed-append, same-or, used-mapped, used-one, used-there, IsFit, AreFixed, IsFollowed, PassesUnderflowUp, EndsUnderflow, HasCount}
use Rattle.btree_laws.specs.SiblingSteps.{ShrinksRoot}
use Rattle.btree_laws.specs.UnderflowFix.{IsUnderflowFixed, UnderflowsUnder, borrows, empties, merges, shrinks_root, rests}
use Rattle.btree_laws.specs.Moved.{moved_by_emptying, moved_by_shrink_root}
use Rattle.btree_laws.specs.Step.{RemovesNode}
use Rattle.btree_laws.specs.WellFormed.{least_of}
use Rattle.btree_laws.proofs.Underflow.Order.{underflow-apart, underflow-root}
use Rattle.btree_laws.proofs.Underflow.Upward.{underflow-done, underflow-done-root, underflow-node, underflow-used, to-child, to-nothing}
use Rattle.btree_laws.proofs.Trees.Sizes.{least-low, least-other, least-root}
use Rattle.btree_raw.specs.NodeSteps.{CanShrinkRoot}
use Rattle.btree_raw.specs.Underflow.{IsFixing, IsRepairedOrEmpty}
use Rattle.btree_raw.proofs.BorrowLemmas.{followed-node, followed-under}
use Rattle.btree_raw.proofs.OffsetLemmas.{underflow-low}
use Rattle.btree_raw.proofs.StepLemmas.{size-at}

module _ {A : Type 0} where
  first-inner : (v : View A) (child : ℕ) → first_in v ≡ Some child → IsTrue (is_internal v)
  first-inner (leaf p xs) child e = absurd (cc)
  first-inner (internal p u bs) child e = refl

  first-only : (v : View A) (child other : ℕ) → first_in v ≡ Some child → children_of v ≡ other ∷ [] → other ≡ child
  first-only (leaf p xs) child other e o = absurd (cc)
  first-only (internal p u bs) child other e o = cc

  first-leafy : (v : View A) → first_in v ≡ None → is_internal v ≡ false
  first-leafy (leaf p xs) e = refl
  first-leafy (internal p u bs) e = absurd (cc)

  empty-leaf : (v : View A) → parent_of v ≡ None → size_of v ≡ 0 → first_in v ≡ None → v ≡ leaf None []
  empty-leaf (leaf p []) up none first = ap (λ q. leaf q []) up
  empty-leaf (leaf p (x ∷ xs)) up none first = absurd (omega arith)
  empty-leaf (internal p u bs) up none first = absurd (cc)

  same-known : (node_at new : NodeMap A) (root : Option ℕ) (top : ℕ) (xs : List A) (expected : Option A) (b : Address) (place freed bound : ℕ) → root ≡ Some top
      → IsRepaired A new top xs expected b place freed bound → IsRepairedOrEmpty new root xs expected b place freed bound
  same-known node_at new root top xs expected b place freed bound is g = subst (λ r. IsRepairedOrEmpty new r xs expected b place freed bound) (sym is) g

least-some : (root id : ℕ) → 0 < least_of root id
least-some root id = elim (same-or id root) [
  | inl e ↦ let l = least-root root id e in omega arith
  | inr ne ↦ let l = least-other root id ne in omega arith
]

-- a fit node has an item
pub fit-some : {A : Type 0} (node_at : NodeMap A) (root : Option ℕ) (id count : ℕ) → IsFit node_at root id → HasCount node_at id count → 0 < count
fit-some node_at root id count fit counted =
    let l = least-some fit.top id in
    let e = size-at node_at id count fit.node fit.here counted in
    let f = fit.sized.0 in
    omega arith

module _ {A : Type 0} (node_at : NodeMap A) (root : Option ℕ) (id : ℕ) (a : Address) (s : IsFixing node_at root id a)
    (top : option_map parent_of (node_at id) ≡ Some None) (count : ℕ) (counted : HasCount node_at id count) where
  abbrev f : IsFollowed node_at id a
  f = s.followed

  abbrev at-node : (v : View A) × (node_at id ≡ Some v)
  at-node = followed-node node_at id a f

  up : parent_of at-node.0 ≡ None
  up = followed-under node_at id a f None top

  -- node `id` is the root
  at-top : (t : ℕ) → root ≡ Some t → id ≡ t
  at-top t is =
      let r = underflow-root A node_at f.root f.xs id f.expected a f.place f.freed f.bound f.underflow at-node.0 at-node.1 up in
      let e = s.at_root in cc

  size-top : (t : ℕ) → root ≡ Some t → size_in (node_at t) ≡ size_of at-node.0
  size-top t is = ap (λ n. size_in (node_at n)) (sym (at-top t is)) ∙ ap size_in at-node.1

  pub root-there : 0 < times_used (node_at id)
  root-there = used-there node_at id at-node.0 at-node.1

  pub root-rests : 0 < count → AreFixed node_at node_at root root id a a
  root-rests some = record {
    removed = [];
    counted = λ n. omega arith;
    fixed = λ t xs expected place freed bound is g.
        let z : freed ≡ freed + 0 = omega arith in
        subst (λ m. IsRepairedOrEmpty node_at root xs expected a place m bound) z
        (same-known node_at node_at root t xs expected a place freed bound is
        (underflow-done-root A node_at t xs id expected a place freed bound g at-node.0 at-node.1 up (let e = size-at node_at id count at-node.0 at-node.1 counted in omega arith)));
    few = λ t xs expected place freed bound is g. omega arith;
    steps = λ t is.
        let l = least-root t id (at-top t is) in
        let e = size-at node_at id count at-node.0 at-node.1 counted in
        let z = ap size_in at-node.1 in
        rests node_at id (omega arith) (λ n. refl) is;
  }

  module _ (none : count ≤ 0) where
    empty : size_of at-node.0 ≡ 0
    empty = let e = size-at node_at id count at-node.0 at-node.1 counted in omega arith

    module _ (child : ℕ) (first : option_map first_in (node_at id) ≡ Some (Some child)) where
      first-here : first_in at-node.0 ≡ Some child
      first-here = let q : Some (first_in at-node.0) ≡ Some (Some child) = sym (ap (option_map first_in) at-node.1) ∙ first in cc

      inner : IsTrue (is_internal at-node.0)
      inner = first-inner at-node.0 child first-here

      pub can-release : CanShrinkRoot node_at id child
      can-release =
          let o = to-child A node_at f.root f.xs id f.expected a f.place f.freed f.bound f.underflow at-node.0 at-node.1 up empty inner in
          let same = first-only at-node.0 child o.child first-here o.only in
          record {
            node = at-node.0;
            here = at-node.1;
            only = subst (λ k. children_of at-node.0 ≡ k ∷ []) same o.only;
            used = subst (λ k. 0 < times_used (node_at k)) same (used-there node_at o.child o.node o.here);
            apart = subst (λ k. k ≢ id) same o.apart;
          }

      pub released : (new : NodeMap A) → ShrinksRoot node_at new id child → (held : ℕ) → HasCount node_at child held → AreFixed node_at new root (Some child) id a (moved_by_shrink_root id child held a)
      released new r held holds = record {
        removed = id ∷ [];
        counted = λ n. elim (same-or n id) [
          | inl e ↦ rw e (let u = used-one (node_at id) at-node.0 at-node.1 in let w = ap times_used r.removed in let o = one-self id in omega arith)
          | inr ne ↦ let o = one-other n id ne in elim (same-or n child) [
            | inl e ↦ let u : times_used (new n) ≡ times_used (node_at n) = rw e (ap times_used r.new_child ∙ used-mapped (with_parent None) (node_at child)) in omega arith
            | inr nc ↦ let u = ap times_used (r.kept n ne nc) in omega arith
          ]
        ];
        fixed = λ t xs expected place freed bound is g.
            let o = to-child A node_at t xs id expected a place freed bound g at-node.0 at-node.1 up empty inner in
            let same = first-only at-node.0 child o.child first-here o.only in
            let size : size_of o.node ≡ held = size-at node_at child held o.node (subst (λ k. node_at k ≡ Some o.node) same o.here) holds in
            let n : suc freed ≡ freed + 1 = omega arith in
            subst (λ m. IsRepaired A new child xs expected (moved_by_shrink_root id child held a) place m bound) n
            (subst (λ m. IsRepaired A new child xs expected (moved_by_shrink_root id child m a) place (suc freed) bound) size
            (subst (λ k. IsRepaired A new k xs expected (moved_by_shrink_root id k (size_of o.node) a) place (suc freed) bound) same
            (o.next new (subst (λ k. ShrinksRoot node_at new id k) (sym same) r))));
        few = λ t xs expected place freed bound is g. omega arith;
        steps = λ t is.
            let e = size-top t is in
            let z = empty in
            shrinks_root node_at id child (at-top t is) (omega arith) (subst (λ n. ShrinksRoot node_at new n child) (at-top t is) r) refl;
      }

    pub emptied : option_map first_in (node_at id) ≡ Some None → (new : NodeMap A) → RemovesNode node_at new id → AreFixed node_at new root None id a (moved_by_emptying a)
    emptied first new lo =
        let none-here : first_in at-node.0 ≡ None = (let q : Some (first_in at-node.0) ≡ Some None = sym (ap (option_map first_in) at-node.1) ∙ first in cc) in
        record {
          removed = id ∷ [];
          counted = λ n. elim (same-or n id) [
            | inl e ↦ rw e (let u = used-one (node_at id) at-node.0 at-node.1 in let w = ap times_used lo.here in let o = one-self id in omega arith)
            | inr ne ↦ let o = one-other n id ne in let u = ap times_used (lo.others n ne) in omega arith
          ];
          fixed = λ t xs expected place freed bound is g.
              let e = to-nothing A node_at t xs id expected a place freed bound g at-node.0 at-node.1 up empty (first-leafy at-node.0 none-here) new lo in
              let p = e.within_strain in
              (e.formed, e.valid, e.at_place, omega arith);
          few = λ t xs expected place freed bound is g. omega arith;
          steps = λ t is.
              let bare : at-node.0 ≡ leaf None [] = empty-leaf at-node.0 up empty none-here in
              let same = at-top t is in
              empties node_at id same (subst (λ n. node_at n ≡ Some (leaf None [])) same (at-node.1 ∙ ap Some bare))
              (subst (λ n. RemovesNode node_at new n) same lo) refl;
        }

-- the state of the fix
module _ (A : Type 0) (old now : NodeMap A) (root : Option ℕ) (start id : ℕ) (a b : Address) where
  -- what held for the tree at the start holds at the node that the fix has reached, with these nodes freed, no more
  -- than the levels passed; and what the order of the steps makes of the nodes from here on, it makes of those at the
  -- start
  pub record FixedUpTo : Type 0 where
    pub removed : List ℕ
    pub counted : (n : ℕ) → times_used (old n) ≡ times_used (now n) + times_listed n removed
    pub next : (top : ℕ) (xs : List A) (expected : Option A) (place freed bound : ℕ) → root ≡ Some top
        → MayUnderflowAt A old top xs start expected a place freed bound → MayUnderflowAt A now top xs id expected b place (freed + length removed) bound
    pub few : (top : ℕ) (xs : List A) (expected : Option A) (place freed bound : ℕ) → root ≡ Some top
        → MayUnderflowAt A old top xs start expected a place freed bound → length removed + levels_above now (length xs) id ≤ levels_above old (length xs) start
    pub order : (top : ℕ) → root ≡ Some top → (new : NodeMap A) (new_root : Option ℕ) → IsUnderflowFixed now new top new_root id → IsUnderflowFixed old new top new_root start
    pub back : IsSome a.offset → IsSome b.offset

pub fix-start : (A : Type 0) (node_at : NodeMap A) (root : Option ℕ) (start : ℕ) (a : Address) → FixedUpTo A node_at node_at root start start a a
fix-start A node_at root start a = record {
  removed = [];
  counted = λ n. omega arith;
  next = λ top xs expected place freed bound is g. let z : freed ≡ freed + 0 = omega arith in subst (λ m. MayUnderflowAt A node_at top xs start expected a place m bound) z g;
  few = λ top xs expected place freed bound is g. omega arith;
  order = λ top is new new_root m. m;
  back = λ x. x;
}

module _ {A : Type 0} (old now : NodeMap A) (root : Option ℕ) (start id : ℕ) (a b : Address) (s : IsFixing old root start a) (c : FixedUpTo A old now root start id a b) where
  -- what still holds for the followed address
  pub still-followed : IsFollowed now id b
  still-followed = record {
    root = s.followed.root;
    xs = s.followed.xs;
    expected = s.followed.expected;
    place = s.followed.place;
    freed = s.followed.freed + length c.removed;
    bound = s.followed.bound;
    underflow = c.next s.followed.root s.followed.xs s.followed.expected s.followed.place s.followed.freed s.followed.bound s.at_root s.followed.underflow;
  }

  pub still-fixing : IsFixing now root id b
  unfolding still-followed
  still-fixing = record { followed = still-followed; at_root = s.at_root }

  pub fix-used : 0 < times_used (now id)
  fix-used = underflow-used A now s.followed.root s.followed.xs id s.followed.expected b s.followed.place (s.followed.freed + length c.removed) s.followed.bound
      (c.next s.followed.root s.followed.xs s.followed.expected s.followed.place s.followed.freed s.followed.bound s.at_root s.followed.underflow)

  pub fix-low : IfSome b.offset (λ n. n ≤ 9)
  fix-low = underflow-low A now s.followed.root s.followed.xs id s.followed.expected b s.followed.place (s.followed.freed + length c.removed) s.followed.bound
      (c.next s.followed.root s.followed.xs s.followed.expected s.followed.place s.followed.freed s.followed.bound s.at_root s.followed.underflow)

  abbrev still : MayUnderflowAt A now s.followed.root s.followed.xs id s.followed.expected b s.followed.place (s.followed.freed + length c.removed) s.followed.bound
  still = c.next s.followed.root s.followed.xs s.followed.expected s.followed.place s.followed.freed s.followed.bound s.at_root s.followed.underflow

  -- a node with a parent that underflows is not the root
  short-under : (p count : ℕ) → option_map parent_of (now id) ≡ Some (Some p) → HasCount now id count → count ≤ 2 → (top : ℕ) → root ≡ Some top
      → UnderflowsUnder now top p id
  short-under p count under counted few top is =
      let e = underflow-node A now s.followed.root s.followed.xs id s.followed.expected b s.followed.place (s.followed.freed + length c.removed) s.followed.bound still in
      at _ e
    where
      same : s.followed.root ≡ top
      same = let e = s.at_root in cc

      at : (v : View A) → now id ≡ Some v → UnderflowsUnder now top p id
      at v e =
          let q : Some (parent_of v) ≡ Some (Some p) = sym (ap (option_map parent_of) e) ∙ under in
          let up : parent_of v ≡ Some p = cc in
          let size = size-at now id count v e counted in
          let z = ap size_in e in
          record {
            apart = subst (λ t. id ≢ t) same
                (underflow-apart A now s.followed.root s.followed.xs id s.followed.expected b s.followed.place (s.followed.freed + length c.removed) s.followed.bound still v e p up);
            few = omega arith;
            named = under;
          }

  -- so it is not fit
  pub short-unfit : (p count : ℕ) → option_map parent_of (now id) ≡ Some (Some p) → HasCount now id count → count ≤ 2 → IsFit now root id → ⊥
  short-unfit p count under counted few fit =
      let u = short-under p count under counted few fit.top fit.at_root in
      let l = least-other fit.top id u.apart in
      let z = ap size_in fit.here in
      let e = fit.sized.0 in
      let f = u.few in
      omega arith

  -- no item too few
  pub fix-done : (v : View A) → now id ≡ Some v → 2 < size_of v → AreFixed old now root root start a b
  fix-done v e enough = record {
    removed = c.removed;
    counted = c.counted;
    fixed = λ top xs expected place freed bound is g.
        same-known now now root top xs expected b place (freed + length c.removed) bound is
        (underflow-done A now top xs id expected b place (freed + length c.removed) bound (c.next top xs expected place freed bound is g) v e (omega arith));
    few = λ top xs expected place freed bound is g. let f = c.few top xs expected place freed bound is g in omega arith;
    steps = λ top is.
        let l = least-low top id in
        let z = ap size_in e in
        c.order top is now root (rests now id (omega arith) (λ n. refl) is);
  }

  pub fix-enough : (count : ℕ) → HasCount now id count → 2 < count → AreFixed old now root root start a b
  fix-enough count counted enough =
      let n = followed-node now id b still-followed in
      let size = size-at now id count n.0 n.1 counted in
      fix-done n.0 n.1 (omega arith)

  -- the last step
  pub fix-here : (new : NodeMap A) (d : Address) → EndsUnderflow now new id b d → (p count : ℕ) → option_map parent_of (now id) ≡ Some (Some p)
      → HasCount now id count → count ≤ 2 → Borrows now new p id → AreFixed old new root root start a d
  fix-here new d m p count under counted low step = record {
    removed = c.removed;
    counted = λ n. let k = c.counted n in let u = m.used n in omega arith;
    fixed = λ top xs expected place freed bound is g.
        same-known now new root top xs expected d place (freed + length c.removed) bound is
        (m.repaired top xs expected place (freed + length c.removed) bound (c.next top xs expected place freed bound is g));
    few = λ top xs expected place freed bound is g. let f = c.few top xs expected place freed bound is g in omega arith;
    steps = λ top is. c.order top is new root (borrows now id p (short-under p count under counted low top is) step is);
  }

  pub fix-root : (new : NodeMap A) (new_root : Option ℕ) (d : Address) → AreFixed now new root new_root id b d → AreFixed old new root new_root start a d
  fix-root new new_root d m = record {
    removed = c.removed ++ m.removed;
    counted = λ n. let k = c.counted n in let u = m.counted n in let l = listed-append n c.removed m.removed in omega arith;
    fixed = λ top xs expected place freed bound is g.
        let l = length-append c.removed m.removed in
        let e : (freed + length c.removed) + length m.removed ≡ freed + length (c.removed ++ m.removed) = omega arith in
        subst (λ k. IsRepairedOrEmpty new new_root xs expected d place k bound) e
        (m.fixed top xs expected place (freed + length c.removed) bound is (c.next top xs expected place freed bound is g));
    few = λ top xs expected place freed bound is g.
        let f = c.few top xs expected place freed bound is g in
        let k = m.few top xs expected place (freed + length c.removed) bound is (c.next top xs expected place freed bound is g) in
        let l = length-append c.removed m.removed in
        omega arith;
    steps = λ top is. c.order top is new new_root (m.steps top is);
  }

  -- a step to the parent
  module _ (new : NodeMap A) (p : ℕ) (d : Address) (m : PassesUnderflowUp now new id p b d) where
    pub fix-above : (IsSome b.offset → IsSome d.offset) → (count : ℕ) → option_map parent_of (now id) ≡ Some (Some p) → HasCount now id count
        → count ≤ 2 → MergesNode now new p id → FixedUpTo A old new root start p a d
    fix-above back count under counted low step = record {
      removed = c.removed ++ m.removed ∷ [];
      counted = λ n. let k = c.counted n in let u = m.used n in let l = listed-append n c.removed (m.removed ∷ []) in omega arith;
      next = λ top xs expected place freed bound is g.
          let l = length-append c.removed (m.removed ∷ []) in
          let e : suc (freed + length c.removed) ≡ freed + length (c.removed ++ m.removed ∷ []) = omega arith in
          subst (λ k. MayUnderflowAt A new top xs p expected d place k bound) e
          (m.underflow top xs expected place (freed + length c.removed) bound (c.next top xs expected place freed bound is g)).0;
      few = λ top xs expected place freed bound is g.
          let f = c.few top xs expected place freed bound is g in
          let k = (m.underflow top xs expected place (freed + length c.removed) bound (c.next top xs expected place freed bound is g)).1 in
          let l = length-append c.removed (m.removed ∷ []) in
          omega arith;
      order = λ top is last last_root rest.
          c.order top is last last_root (merges now new id p (short-under p count under counted low top is) step rest);
      back = λ is. back (c.back is);
    }

    pub fix-lower : levels_above new (length s.followed.xs) p < levels_above now (length s.followed.xs) id
    fix-lower =
        (m.underflow s.followed.root s.followed.xs s.followed.expected s.followed.place (s.followed.freed + length c.removed) s.followed.bound
        (c.next s.followed.root s.followed.xs s.followed.expected s.followed.place s.followed.freed s.followed.bound s.at_root s.followed.underflow)).1

    pub fix-lower-of : (most : ℕ) → length s.followed.xs ≡ most → levels_above new most p < levels_above now most id
    fix-lower-of most is = subst (λ n. levels_above new n p < levels_above now n id) is fix-lower
