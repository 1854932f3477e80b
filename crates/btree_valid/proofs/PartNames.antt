-- In a part that is as it should be each position passes, and the way by first children leads to the first leaf.
use Rattle.btree_valid.proofs.Common.{◌≡◌, ◌∙◌, ◌+◌, ◌<◌, ◌≤◌, ◌∷◌, ◌++◌, [], ℕ, zero, suc, inl, inr, List, Option, Some, None, Result, Ok, Err, slice_get, refl, sym, ap, subst, arith, ⊤, Ordering, Fault, NoNode, TooDeep, NotBalanced, FirstFailed, IsNodeVerdict, PassesCheck, node_faults, separator_after, separator_before, NodeMap, View, children_of, items_of, most_of, parent_of, keys_of, Subtree, id_of, view_at, top-view, IsFirstLeaf, IsMetBelow, Leads, PassesAt, Spotted, nearest_of, step_down, Suits}
use Rattle.std.specs.Prelude.{IsSome}
use Rattle.btree_laws.proofs.Options.{none-some}
use Rattle.btree_valid.specs.Positions.{IsFirstFaultAmong, IsLeafAt, IsVerdictAt, PassesOwn, Precedes}
use Rattle.btree_valid.specs.PositionLaws.{ok-or-err}
use Rattle.btree_valid.proofs.SuitsLemmas.{all-suit, child-at}
use Rattle.btree_valid.proofs.VerdictLemmas.{passes}

-- the way by first children
abbrev pub leftmost : ℕ → List ℕ
leftmost zero = []
leftmost (suc h) = 0 ∷ leftmost h

-- checks in order, one list after another
first-err : (P : Fault → Type 0) (xs ys : List Fault) (fault : Fault) → FirstFailed P xs (Err fault) → FirstFailed P (xs ++ ys) (Err fault)
first-err P [] ys fault e = absurd (ok-or-err fault (Ok tt) (Err fault) refl refl (sym e))
first-err P (x ∷ xs) ys fault (inl f) = inl f
first-err P (x ∷ xs) ys fault (inr f) = inr (f.0, first-err P xs ys fault f.1)

first-ok : (P : Fault → Type 0) (xs ys : List Fault) (answer : Result ⊤ Fault) → FirstFailed P xs (Ok tt) → FirstFailed P ys answer → FirstFailed P (xs ++ ys) answer
first-ok P [] ys answer f g = g
first-ok P (x ∷ xs) ys answer (inl f) g = absurd (ok-or-err x (Ok tt) (Err x) refl refl f.1)
first-ok P (x ∷ xs) ys answer (inr f) g = inr (f.0, first-ok P xs ys answer f.1 g)

none-failed : (P : Fault → Type 0) → ((fault : Fault) → P fault) → (faults : List Fault) → FirstFailed P faults (Ok tt)
none-failed P each [] = refl
none-failed P each (x ∷ xs) = inr (each x, none-failed P each xs)

some-node : {X : Type 0} (o : Option X) (x : X) → o ≡ Some x → IsSome o
some-node o x e = subst IsSome (sym e) refl

none-at : (ns : List ℕ) (index child : ℕ) → ns ≡ [] → slice_get ns index ≡ Some child → ⊥
none-at [] index child e f = cc
none-at (n ∷ ns) index child e f = cc

module _ {K V : Type 0} (cmp : K → K → Ordering) (node_at : NodeMap (K × V)) (IsFirstDepth : ℕ → Type 0) (at : Spotted K) where
  abbrev pub Verdict : Result ⊤ Fault → Type 0
  Verdict answer = IsVerdictAt cmp node_at IsFirstDepth at answer

  abbrev last_faults : List Fault
  last_faults = TooDeep ∷ NotBalanced ∷ []

  -- the checks of a position by those of its node
  pub unused-fails : node_at at.id ≡ None → Verdict (Err NoNode)
  unused-fails none = inl (none-some (node_at at.id) none, refl)

  module _ (v : View (K × V)) (there : node_at at.id ≡ Some v) where
    own : (answer : Result ⊤ Fault) → IsNodeVerdict cmp at.parent at.min at.max v answer → FirstFailed (PassesAt cmp node_at IsFirstDepth at) node_faults answer
    own answer verdict = subst (λ o. FirstFailed (PassesOwn cmp at o) node_faults answer) (sym there) verdict

    pub own-fails : (fault : Fault) → IsNodeVerdict cmp at.parent at.min at.max v (Err fault) → Verdict (Err fault)
    own-fails fault verdict = inr (some-node (node_at at.id) v there, first-err (PassesAt cmp node_at IsFirstDepth at) node_faults last_faults fault (own (Err fault) verdict))

    module _ (ok : IsNodeVerdict cmp at.parent at.min at.max v (Ok tt)) where
      then-last : (answer : Result ⊤ Fault) → FirstFailed (PassesAt cmp node_at IsFirstDepth at) last_faults answer → Verdict answer
      then-last answer f = inr (some-node (node_at at.id) v there, first-ok (PassesAt cmp node_at IsFirstDepth at) node_faults last_faults answer (own (Ok tt) ok) f)

      pub deep-fails : 32 ≤ at.depth → Verdict (Err TooDeep)
      deep-fails deep = then-last (Err TooDeep) (inl (λ low. omega arith, refl))

      pub balance-fails : at.depth < 32 → children_of v ≡ [] → (first : ℕ) → IsFirstDepth first → (at.depth ≡ first → ⊥) → Verdict (Err NotBalanced)
      balance-fails low none first is other = then-last (Err NotBalanced) (inr (low, inl (λ passes. other (passes (v, there, none) first is), refl)))

      pub all-checked : at.depth < 32 → (IsLeafAt node_at at → (first : ℕ) → IsFirstDepth first → at.depth ≡ first) → Verdict (Ok tt)
      all-checked low balanced = then-last (Ok tt) (inr (low, inr (balanced, refl)))

module _ {K V : Type 0} (node_at : NodeMap (K × V)) where
  -- a way goes on from the child with its first index
  pub from-child : (s : Spotted K) (node : View (K × V)) (index child : ℕ) → node_at s.id ≡ Some node → slice_get (children_of node) index ≡ Some child
      → (i : ℕ) → i ≡ index → (way : List ℕ) (at : Spotted K) → Leads node_at s (i ∷ way) at → Leads node_at (step_down s node index child) way at
  from-child s node index child there found i same way at l =
      let is : l.0 ≡ node = (let e = l.2 in cc) in
      let one : slice_get (children_of l.0) i ≡ slice_get (children_of node) index = ap (λ n. slice_get (children_of n) i) is ∙ ap (λ j. slice_get (children_of node) j) same in
      let kid : l.1 ≡ child = (let e = l.3 in cc) in
      let step : step_down s l.0 i l.1 ≡ step_down s node index child = ap (λ n. step_down s n i l.1) is ∙ (ap (λ j. step_down s node j l.1) same ∙ ap (λ c. step_down s node index c) kid) in
      subst (λ u. Leads node_at u way at) step l.4

  inner-leaf : (s : Spotted K) (node : View (K × V)) (index child : ℕ) → node_at s.id ≡ Some node → slice_get (children_of node) index ≡ Some child → IsLeafAt node_at s → ⊥
  inner-leaf s node index child there found l =
      let is : l.0 ≡ node = (let e = l.1 in cc) in
      let none : children_of node ≡ [] = ap children_of (sym is) ∙ l.2 in
      none-at (children_of node) index child none found

  -- the first leaf under the first child is the first under the node
  pub first-below : (s : Spotted K) (node : View (K × V)) (child : ℕ) (there : node_at s.id ≡ Some node) (found : slice_get (children_of node) 0 ≡ Some child)
      → (way : List ℕ) (at : Spotted K) → IsFirstLeaf node_at (IsMetBelow node_at (step_down s node 0 child)) way at → IsFirstLeaf node_at (IsMetBelow node_at s) (0 ∷ way) at
  first-below s node child there found way at f = record {
    met = record { leads = (node, child, there, found, f.met.leads); low = f.met.low };
    leaf = f.leaf;
    before = before;
  }
    where
      before : (other : List ℕ) (t : Spotted K) → Precedes other (0 ∷ way) → IsMetBelow node_at s other t → IsLeafAt node_at t → ⊥
      before [] t first m is = inner-leaf s node 0 child there found (subst (IsLeafAt node_at) (sym m.leads) is)
      before (i ∷ other) t (inl low) m is = omega arith
      before (i ∷ other) t (inr later) m is = f.before other t later.1 (record { leads = from-child s node 0 child there found i later.0 other t m.leads; low = m.low }) is

  module _ (cmp : K → K → Ordering) (IsFirstDepth : ℕ → Type 0) where
    -- a fault at the start itself
    pub here-first : (s : Spotted K) → s.depth ≤ 32 → (fault : Fault) → Verdict cmp node_at IsFirstDepth s (Err fault) → IsFirstFaultAmong cmp node_at IsFirstDepth (IsMetBelow node_at s) fault
    here-first s low fault fails = record {
      way = [];
      at = s;
      met = record { leads = refl; low = low };
      fails = fails;
      before = λ other t first m. absurd first;
    }

    -- a fault under a child, if the node and what is under the children before it pass
    pub child-first : (s : Spotted K) (node : View (K × V)) (index child : ℕ) (there : node_at s.id ≡ Some node) (found : slice_get (children_of node) index ≡ Some child) → Verdict cmp node_at IsFirstDepth s (Ok tt)
        → ((i : ℕ) → i < index → (way : List ℕ) (at : Spotted K) → Leads node_at s (i ∷ way) at → Verdict cmp node_at IsFirstDepth at (Ok tt))
        → (fault : Fault) → IsFirstFaultAmong cmp node_at IsFirstDepth (IsMetBelow node_at (step_down s node index child)) fault → IsFirstFaultAmong cmp node_at IsFirstDepth (IsMetBelow node_at s) fault
    child-first s node index child there found own earlier fault f = record {
      way = index ∷ f.way;
      at = f.at;
      met = record { leads = (node, child, there, found, f.met.leads); low = f.met.low };
      fails = f.fails;
      before = before;
    }
      where
        before : (other : List ℕ) (t : Spotted K) → Precedes other (index ∷ f.way) → IsMetBelow node_at s other t → Verdict cmp node_at IsFirstDepth t (Ok tt)
        before [] t first m = subst (λ u. Verdict cmp node_at IsFirstDepth u (Ok tt)) m.leads own
        before (i ∷ other) t (inl low) m = earlier i low other t m.leads
        before (i ∷ other) t (inr later) m = f.before other t later.1 (record { leads = from-child s node index child there found i later.0 other t m.leads; low = m.low })

module _ {K V : Type 0} (cmp : K → K → Ordering) (node_at : NodeMap (K × V)) where
  -- a part stands where a position leads
  pub record StandsAt (h : ℕ) (part : Subtree (K × V) h) (s : Spotted K) : Type 0 where
    pub here : id_of (K × V) h part ≡ s.id
    pub suits : Suits None cmp s.min s.max node_at s.parent h part

  part-view : (h : ℕ) (part : Subtree (K × V) h) (s : Spotted K) → StandsAt h part s → node_at s.id ≡ Some (view_at (K × V) h s.parent part)
  part-view h part s p = subst (λ i. node_at i ≡ Some (view_at (K × V) h s.parent part)) p.here (top-view (K × V) node_at h s.parent part p.suits.holds)

  part-is : (h : ℕ) (part : Subtree (K × V) h) (s : Spotted K) → StandsAt h part s → (node : View (K × V)) → node_at s.id ≡ Some node → node ≡ view_at (K × V) h s.parent part
  part-is h part s p node there = let e : Some node ≡ Some (view_at (K × V) h s.parent part) = sym there ∙ part-view h part s p in cc

  -- so do its children
  child-stands : (h : ℕ) (part : Subtree (K × V) (suc h)) (s : Spotted K) → StandsAt (suc h) part s → (node : View (K × V)) (index child : ℕ) → node_at s.id ≡ Some node → slice_get (children_of node) index ≡ Some child
      → (c : Subtree (K × V) h) × StandsAt h c (step_down s node index child)
  child-stands h part s p node index child there found =
      let is = part-is (suc h) part s p node there in
      let c = child-at cmp None node_at h (Some part.0) s.min s.max s.parent part.1 part.2 (all-suit cmp None node_at h s.min s.max s.parent part p.suits) index child (sym found ∙ ap (λ u. slice_get (children_of u) index) is) in (
        c.part,
        record {
          here = c.here;
          suits = subst (λ u. Suits None cmp (nearest_of (separator_before u index) s.min) (nearest_of (separator_after u index) s.max) node_at (Some s.id) h c.part) (sym is)
              (subst (λ n. Suits None cmp (nearest_of (separator_before (view_at (K × V) (suc h) s.parent part) index) s.min) (nearest_of (separator_after (view_at (K × V) (suc h) s.parent part) index) s.max) node_at (Some n) h c.part) p.here c.suits);
        },
      )

  no-child : (part : Subtree (K × V) 0) (s : Spotted K) → StandsAt 0 part s → (node : View (K × V)) (index child : ℕ) → node_at s.id ≡ Some node → slice_get (children_of node) index ≡ Some child → ⊥
  no-child part s p node index child there found =
      let is = part-is 0 part s p node there in
      none-at (children_of node) index child (ap children_of is) found

  inner-part : (h : ℕ) (part : Subtree (K × V) (suc h)) (s : Spotted K) → StandsAt (suc h) part s → IsLeafAt node_at s → ⊥
  inner-part h part s p l =
      let is = part-is (suc h) part s p l.0 l.1 in
      let none = ap children_of (sym is) ∙ l.2 in
      cc

  -- each position under it passes
  module _ (IsFirstDepth : ℕ → Type 0) where
    own-passed : (h : ℕ) (part : Subtree (K × V) h) (s : Spotted K) → StandsAt h part s → s.depth + h < 32 → ((first : ℕ) → IsFirstDepth first → first ≡ s.depth + h) → Verdict cmp node_at IsFirstDepth s (Ok tt)
    own-passed h part s p low first =
        all-checked cmp node_at IsFirstDepth s (view_at (K × V) h s.parent part) (part-view h part s p)
        (none-failed (PassesCheck cmp s.parent s.min s.max (parent_of (view_at (K × V) h s.parent part)) (most_of (view_at (K × V) h s.parent part)) (keys_of (items_of (view_at (K × V) h s.parent part)))) (passes cmp s.min s.max node_at s.parent h part p.suits) node_faults)
        (omega arith) (balanced h part p first)
      where
        balanced : (h : ℕ) (part : Subtree (K × V) h) → StandsAt h part s → ((first : ℕ) → IsFirstDepth first → first ≡ s.depth + h) → IsLeafAt node_at s → (first : ℕ) → IsFirstDepth first → s.depth ≡ first
        balanced zero part p first l n is = let e = first n is in omega arith
        balanced (suc h) part p first l n is = absurd (inner-part h part s p l)

    pub part-passes : (h : ℕ) (part : Subtree (K × V) h) (s : Spotted K) → StandsAt h part s → s.depth + h < 32 → ((first : ℕ) → IsFirstDepth first → first ≡ s.depth + h)
        → (way : List ℕ) (at : Spotted K) → Leads node_at s way at → Verdict cmp node_at IsFirstDepth at (Ok tt)
    part-passes h part s p low first [] at l = subst (λ u. Verdict cmp node_at IsFirstDepth u (Ok tt)) l (own-passed h part s p low first)
    part-passes zero part s p low first (i ∷ way) at l = absurd (no-child part s p l.0 i l.1 l.2 l.3)
    part-passes (suc h) part s p low first (i ∷ way) at l =
        let c = child-stands h part s p l.0 i l.1 l.2 l.3 in
        part-passes h c.0 (step_down s l.0 i l.1) c.1 (omega arith) (λ n is. let e = first n is in omega arith) way at l.4

  pub record HasFirstLeaf (s : Spotted K) (way : List ℕ) (depth : ℕ) : Type 0 where
    pub at : Spotted K
    pub first : IsFirstLeaf node_at (IsMetBelow node_at s) way at
    pub depth_is : at.depth ≡ depth

  pub part-first : (h : ℕ) (part : Subtree (K × V) h) (s : Spotted K) → StandsAt h part s → s.depth + h ≤ 32 → HasFirstLeaf s (leftmost h) (s.depth + h)
  part-first zero part s p low = record {
    at = s;
    first = record {
      met = record { leads = refl; low = omega arith };
      leaf = (view_at (K × V) 0 s.parent part, part-view 0 part s p, refl);
      before = λ other t first m is. absurd first;
    };
    depth_is = omega arith;
  }
  part-first (suc h) part s p low =
      let node : View (K × V) = view_at (K × V) (suc h) s.parent part in
      let child : ℕ = id_of (K × V) h part.1 in
      let there = part-view (suc h) part s p in
      let c = child-stands h part s p node 0 child there refl in
      let f = part-first h c.0 (step_down s node 0 child) c.1 (omega arith) in
      record { at = f.at; first = first-below node_at s node child there refl (leftmost h) f.at f.first; depth_is = (let d = f.depth_is in omega arith) }
