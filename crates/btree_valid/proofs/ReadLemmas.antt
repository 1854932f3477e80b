-- Where no check at a position fails, the content is readable (`root-readable`).
-- The proof builds the tree from its positions: below each of them is a first leaf (`first-leaf`), all leaves have as many
-- indexes as the first one, and so the children of each node have one height (`build`).
use Rattle.btree_valid.proofs.Common.{◌≡◌, ◌∙◌, ◌+◌, ◌<◌, ◌≤◌, ◌∷◌, ◌++◌, [], ℕ, zero, suc, inl, inr, List, Option, Some, None, Ok, Err, length, slice_get, refl, sym, ap, subst, arith, IsTotalOrder, AllByRecursion, Ordering, Content, Ascends, Fault, NoNode, WrongParent, Overflowing, Underflowing, EmptyRoot, Unsorted, BelowSeparator, AboveSeparator, TooDeep, NotBalanced, WrongLength, Unreachable, OverLimit, Node, FirstFailed, IsNodeVerdict, node_faults, NodeMap, View, children_of, internal, items_of, leaf, Holds, Subtree, id_of, items_under, times_under, times_listed, numbers_under, pairs_under, views, rises, numbers-subtree, zero-or, represented-is, represents-of, IsFirstLeaf, IsLeafDepth, IsMetBelow, PassesAt, Spotted, root_spot, step_down, numbers_met, Suits, PassesNode}
use Rattle.std.proofs.lemmas.List.{length-map}
use Rattle.std.specs.FinMap as finite
use Rattle.std.specs.Prelude.{IsSome}
use Rattle.btree_item.proofs.PairEdits.{Ascends-none}
use Rattle.btree_valid.proofs.ListedLaws.{numbers-met}
use Rattle.btree_valid.specs.PositionLaws.{ok-or-err}
use Rattle.btree_valid.specs.Positions.{IsLeafAt, IsVerdictAt, PassesOwn, position_faults}
use Rattle.btree_valid.specs.Verdicts.{HasNoFaultUnder, items_met}
use Rattle.btree_valid.specs.Reading.{IsReadable, PassesPositions}
use Rattle.btree_valid.proofs.EndLemmas.{numbers-more}
use Rattle.btree_valid.proofs.ExactLemmas.{AllSuit, assemble, row_of}
use Rattle.btree_valid.proofs.FoundLemmas.{checked}
use Rattle.btree_valid.proofs.OnceLemmas.{times-once}
use Rattle.btree_valid.proofs.PartNames.{StandsAt, first-below}
use Rattle.btree_valid.proofs.SuitsLemmas.{numbers-total}
use Rattle.btree_valid.proofs.TreeLemmas.{numbers-low}
use Rattle.btree_valid.proofs.VerdictLemmas.{least-one}

-- checks in order, of which none failed
passed-first : (P : Fault → Type 0) (x : Fault) (xs : List Fault) → FirstFailed P (x ∷ xs) (Ok tt) → P x × FirstFailed P xs (Ok tt)
passed-first P x xs (inl f) = absurd (ok-or-err x (Ok tt) (Err x) refl refl f.1)
passed-first P x xs (inr f) = f

passed-both : (P : Fault → Type 0) (xs ys : List Fault) → FirstFailed P (xs ++ ys) (Ok tt) → FirstFailed P xs (Ok tt) × FirstFailed P ys (Ok tt)
passed-both P [] ys f = (refl, f)
passed-both P (x ∷ xs) ys f =
    let p = passed-first P x (xs ++ ys) f in
    let r = passed-both P xs ys p.1 in
    (inr (p.0, r.0), r.1)

unanswered : (P : Fault → Type 0) (faults : List Fault) (fault : Fault) → AllByRecursion (λ one. one ≡ fault → ⊥) faults → FirstFailed P faults (Err fault) → ⊥
unanswered P [] fault none e = ok-or-err fault (Ok tt) (Err fault) refl refl (sym e)
unanswered P (one ∷ later) fault none (inl f) = none.0 (let e = f.1 in cc)
unanswered P (one ∷ later) fault none (inr f) = unanswered P later fault none.1 f.1

-- a fault of the whole tree is none of a position
pub no-position-fault : (fault : Fault) → PassesPositions (Err fault) → (P : Fault → Type 0) → FirstFailed P position_faults (Err fault) → ⊥
no-position-fault WrongLength end P f = unanswered P position_faults WrongLength (λ e. cc, (λ e. cc, (λ e. cc, (λ e. cc, (λ e. cc, (λ e. cc, (λ e. cc, (λ e. cc, (λ e. cc, (λ e. cc, tt)))))))))) f
no-position-fault Unreachable end P f = unanswered P position_faults Unreachable (λ e. cc, (λ e. cc, (λ e. cc, (λ e. cc, (λ e. cc, (λ e. cc, (λ e. cc, (λ e. cc, (λ e. cc, (λ e. cc, tt)))))))))) f
no-position-fault OverLimit end P f = unanswered P position_faults OverLimit (λ e. cc, (λ e. cc, (λ e. cc, (λ e. cc, (λ e. cc, (λ e. cc, (λ e. cc, (λ e. cc, (λ e. cc, (λ e. cc, tt)))))))))) f
no-position-fault NoNode end P f = end
no-position-fault WrongParent end P f = end
no-position-fault Overflowing end P f = end
no-position-fault Underflowing end P f = end
no-position-fault EmptyRoot end P f = end
no-position-fault Unsorted end P f = end
no-position-fault BelowSeparator end P f = end
no-position-fault AboveSeparator end P f = end
no-position-fault TooDeep end P f = end
no-position-fault NotBalanced end P f = end

-- a part has more numbers than levels above its leaves
numbers-height : {A : Type 0} (node_at : NodeMap A) (h : ℕ) (p : Option ℕ) (t : Subtree A h) → Holds A node_at h p t → h < length (numbers_under node_at h (id_of A h t))
numbers-height node_at zero p t d = omega arith
numbers-height node_at (suc h) p t d =
    let below = numbers-height node_at h (Some t.0) t.1 d.1 in
    let all = numbers-total h node_at p t d.0 in
    omega arith

module _ {K V : Type 0} (cmp : K → K → Ordering) (laws : IsTotalOrder cmp) (nodes : Content (Node K V)) (IsFirstDepth : ℕ → Type 0) where
  abbrev At : NodeMap (K × V)
  At = views nodes

  abbrev Passes : Spotted K → Type 0
  Passes s = IsVerdictAt cmp At IsFirstDepth s (Ok tt)

  -- each position from here on passes
  abbrev AllPass : Spotted K → Type 0
  AllPass s = (way : List ℕ) (at : Spotted K) → IsMetBelow At s way at → Passes at

  -- what the checks say where a position leads
  record IsPassed (s : Spotted K) : Type 0 where
    node : View (K × V)
    there : At s.id ≡ Some node
    own : IsNodeVerdict cmp s.parent s.min s.max node (Ok tt)
    low : s.depth < 32
    level : IsLeafAt At s → (first : ℕ) → IsFirstDepth first → s.depth ≡ first

  passed : (s : Spotted K) → Passes s → IsPassed s
  passed s verdict = by (At s.id) refl (passed-first (PassesAt cmp At IsFirstDepth s) NoNode (node_faults ++ (TooDeep ∷ NotBalanced ∷ [])) verdict)
    where
      by : (o : Option (View (K × V))) → At s.id ≡ o → IsSome (At s.id) × FirstFailed (PassesAt cmp At IsFirstDepth s) (node_faults ++ (TooDeep ∷ NotBalanced ∷ [])) (Ok tt) → IsPassed s
      by None is p = absurd (let some = subst IsSome is p.0 in cc)
      by (Some v) is p =
          let parts = passed-both (PassesAt cmp At IsFirstDepth s) node_faults (TooDeep ∷ NotBalanced ∷ []) p.1 in
          let deep = passed-first (PassesAt cmp At IsFirstDepth s) TooDeep (NotBalanced ∷ []) parts.1 in
          let even = passed-first (PassesAt cmp At IsFirstDepth s) NotBalanced [] deep.1 in
          record {
            node = v;
            there = is;
            own = subst (λ o. FirstFailed (PassesOwn cmp s o) node_faults (Ok tt)) is parts.0;
            low = deep.0;
            level = even.0;
          }

  here-passed : (s : Spotted K) → s.depth ≤ 32 → AllPass s → IsPassed s
  here-passed s low all = passed s (all [] s (record { leads = refl; low = low }))

  module _ (s : Spotted K) (node : View (K × V)) (there : At s.id ≡ Some node) (index child : ℕ) (found : slice_get (children_of node) index ≡ Some child) (all : AllPass s) where
    child-passes : AllPass (step_down s node index child)
    child-passes way at m = all (index ∷ way) at (record { leads = (node, child, there, found, m.leads); low = m.low })

  -- the first leaf below
  record HasFirstLeaf (s : Spotted K) : Type 0 where
    way : List ℕ
    at : Spotted K
    first : IsFirstLeaf At (IsMetBelow At s) way at
    deep : s.depth ≤ at.depth

  first-by : (s : Spotted K) → s.depth ≤ 32 → AllPass s → (o : IsPassed s) → ((t : Spotted K) → t.depth ≡ s.depth + 1 → AllPass t → HasFirstLeaf t) → (ids : List ℕ) → children_of o.node ≡ ids → HasFirstLeaf s
  first-by s low all o below [] is = record {
    way = [];
    at = s;
    first = record {
      met = record { leads = refl; low = low };
      leaf = (o.node, o.there, is);
      before = λ other t first m l. absurd first;
    };
    deep = omega arith;
  }
  first-by s low all o below (child ∷ ids) is =
      let found : slice_get (children_of o.node) 0 ≡ Some child = ap (λ l. slice_get l 0) is in
      let f = below (step_down s o.node 0 child) refl (child-passes s o.node o.there 0 child found all) in
      record { way = 0 ∷ f.way; at = f.at; first = first-below At s o.node child o.there found f.way f.at f.first; deep = (let d = f.deep in omega arith) }

  first-leaf : (left : ℕ) (s : Spotted K) → 32 ≤ s.depth + left → s.depth ≤ 32 → AllPass s → HasFirstLeaf s
  first-leaf zero s enough low all = let o = here-passed s low all in let l = o.low in absurd (omega arith)
  first-leaf (suc left) s enough low all =
      let o = here-passed s low all in
      let l = o.low in
      first-by s low all o (λ t next every. first-leaf left t (omega arith) (omega arith) every) (children_of o.node) refl

  module _ (first : ℕ) (is_first : IsFirstDepth first) (top : first ≤ 32) where
    -- a part of the tree stands where a position leads
    record HasPart (h : ℕ) (s : Spotted K) : Type 0 where
      part : Subtree (K × V) h
      stands : StandsAt cmp At h part s

    leaf-part : (s : Spotted K) (o : IsPassed s) (p : Option ℕ) (xs : List (K × V)) → o.node ≡ leaf p xs → HasPart 0 s
    leaf-part s o p xs is =
        let c = subst (PassesNode cmp None s.id s.parent s.min s.max) is (checked cmp laws s.id s.parent s.min s.max o.node (Ok tt) refl o.own) in
        record {
          part = (s.id, xs);
          stands = record {
            here = refl;
            suits = record {
              holds = o.there ∙ (ap Some is ∙ ap (λ q. Some (leaf q xs)) c.parent_is);
              sized = (c.sized, tt);
              ascends = c.ascends;
              between = c.between;
            };
          };
        }

    -- a node with a child is above the leaves
    above-leaves : (s : Spotted K) (o : IsPassed s) (child : ℕ) → slice_get (children_of o.node) 0 ≡ Some child → AllPass s → s.depth ≡ first → ⊥
    above-leaves s o child found all level =
        let l = o.low in
        let f = first-leaf 32 (step_down s o.node 0 child) (omega arith) (omega arith) (child-passes s o.node o.there 0 child found all) in
        let m = f.first.met in
        let at = passed f.at (all (0 ∷ f.way) f.at (record { leads = (o.node, child, o.there, found, m.leads); low = m.low })) in
        let same : f.at.depth ≡ first = at.level f.first.leaf first is_first in
        let deep = f.deep in
        omega arith

    -- the parts of the children from an index on
    record HasParts (h : ℕ) (s : Spotted K) (node : View (K × V)) (index count : ℕ) : Type 0 where
      parts : List (Subtree (K × V) h)
      same : length parts ≡ count
      suit : AllSuit nodes cmp None h (Some s.id) s.min s.max node index parts

    child-parts : (h : ℕ) (s : Spotted K) (o : IsPassed s) → s.depth + suc h ≡ first → AllPass s → ((t : Spotted K) → t.depth + h ≡ first → AllPass t → HasPart h t)
        → (ids : List ℕ) (index : ℕ) → ((i child : ℕ) → slice_get ids i ≡ Some child → slice_get (children_of o.node) (index + i) ≡ Some child) → HasParts h s o.node index (length ids)
    child-parts h s o deep all go [] index each = record { parts = []; same = refl; suit = tt }
    child-parts h s o deep all go (child ∷ ids) index each =
        let found : slice_get (children_of o.node) index ≡ Some child = subst (λ j. slice_get (children_of o.node) j ≡ Some child) (let e : index + 0 ≡ index = omega arith in e) (each 0 child refl) in
        let p = go (step_down s o.node index child) (omega arith) (child-passes s o.node o.there index child found all) in
        let rest = child-parts h s o deep all go ids (suc index) (λ i c e. subst (λ j. slice_get (children_of o.node) j ≡ Some c) (let n : index + suc i ≡ suc index + i = omega arith in n) (each (suc i) c e)) in
        record {
          parts = p.part ∷ rest.parts;
          same = ap suc rest.same;
          suit = (record { here = ap Some p.stands.here ∙ sym found; suits = p.stands.suits }, rest.suit);
        }

    inner-part : (h : ℕ) (s : Spotted K) (o : IsPassed s) (p : Option ℕ) (id : ℕ) (bs : List ((K × V) × ℕ)) → o.node ≡ internal p id bs
        → (parts : List (Subtree (K × V) h)) → length parts ≡ length (children_of o.node) → AllSuit nodes cmp None h (Some s.id) s.min s.max o.node 0 parts → HasPart (suc h) s
    inner-part h s o p id bs is [] same suit =
        let many : length (children_of o.node) ≡ length (children_of (internal p id bs)) = ap (λ v. length (children_of v)) is in
        absurd (omega arith)
    inner-part h s o p id bs is (q ∷ qs) same suit =
        let many : length (children_of o.node) ≡ length (children_of (internal p id bs)) = ap (λ v. length (children_of v)) is in
        let branches = length-map bs (λ (b : (K × V) × ℕ). b.1) in
        let c = subst (PassesNode cmp None s.id s.parent s.min s.max) is (checked cmp laws s.id s.parent s.min s.max o.node (Ok tt) refl o.own) in
        let all = subst (λ v. AllSuit nodes cmp None h (Some s.id) s.min s.max v 0 (q ∷ qs)) is suit in
        record {
          part = (s.id, q, row_of nodes cmp None h (Some s.id) bs qs);
          stands = record {
            here = refl;
            suits = assemble nodes cmp laws None s.id s.parent s.min s.max h p id bs (o.there ∙ ap Some is) c q qs (omega arith) all;
          };
        }

    build-zero : (s : Spotted K) → s.depth + 0 ≡ first → AllPass s → (o : IsPassed s) → (v : View (K × V)) → o.node ≡ v → HasPart 0 s
    build-zero s deep all o (leaf p xs) is = leaf-part s o p xs is
    build-zero s deep all o (internal p id bs) is = absurd (above-leaves s o id (ap (λ v. slice_get (children_of v) 0) is) all (omega arith))

    build-suc : (h : ℕ) (s : Spotted K) → s.depth + suc h ≡ first → AllPass s → (o : IsPassed s) → ((t : Spotted K) → t.depth + h ≡ first → AllPass t → HasPart h t) → (v : View (K × V)) → o.node ≡ v → HasPart (suc h) s
    build-suc h s deep all o go (leaf p xs) is = let same = o.level (o.node, o.there, ap children_of is) first is_first in absurd (omega arith)
    build-suc h s deep all o go (internal p id bs) is =
        let c = child-parts h s o deep all go (children_of o.node) 0 (λ i child e. subst (λ j. slice_get (children_of o.node) j ≡ Some child) (let n : i ≡ 0 + i = omega arith in n) e) in
        inner-part h s o p id bs is c.parts c.same c.suit

    build : (h : ℕ) (s : Spotted K) → s.depth + h ≡ first → AllPass s → HasPart h s
    build zero s deep all = let o = here-passed s (omega arith) all in build-zero s deep all o o.node refl
    build (suc h) s deep all = let o = here-passed s (omega arith) all in build-suc h s deep all o (λ t d every. build h t d every) o.node refl

  -- a number that is met is that of a node with an item
  record HasItem (n : ℕ) : Type 0 where
    node : View (K × V)
    there : At n ≡ Some node
    item : K × V
    more : List (K × V)
    items : items_of node ≡ item ∷ more

  some-item : (s : Spotted K) → IsPassed s → HasItem s.id
  some-item s o = by (items_of o.node) refl
    where
      by : (xs : List (K × V)) → items_of o.node ≡ xs → HasItem s.id
      by [] is =
          let c = checked cmp laws s.id s.parent s.min s.max o.node (Ok tt) refl o.own in
          let low = c.sized.0 in
          let one = least-one s.min s.max in
          let none : length (items_of o.node) ≡ 0 = ap length is in
          absurd (omega arith)
      by (x ∷ xs) is = record { node = o.node; there = o.there; item = x; more = xs; items = is }

module _ {K V : Type 0} (cmp : K → K → Ordering) (laws : IsTotalOrder cmp) (nodes : Content (Node K V)) where
  module _ (root : ℕ) (none : HasNoFaultUnder cmp nodes (Some root)) where
    abbrev IsFirst : ℕ → Type 0
    IsFirst = IsLeafDepth (views nodes) (IsMetBelow (views nodes) (root_spot root))

    module _ (h : ℕ) (low : h < 32) (part : Subtree (K × V) h) (here : id_of (K × V) h part ≡ root) (suits : Suits None cmp None None (views nodes) None h part) where
      part-items : items_met (views nodes) (Some root) ≡ items_under (K × V) h part
      unfolding items_met
      part-items =
          let shape = represents-of (K × V) (views nodes) h None part suits.holds in
          subst (λ i. items_met (views nodes) (Some i) ≡ items_under (K × V) h part) here (represented-is (views nodes) h 33 None (id_of (K × V) h part) (items_under (K × V) h part) (omega arith) shape)

      part-list : pairs_under (views nodes) (Some root) (finite.len nodes) ≡ items_under (K × V) h part
      part-list =
          let shape = represents-of (K × V) (views nodes) h None part suits.holds in
          let few = numbers-low nodes cmp 0 laws root h part here suits in
          let high = numbers-height (views nodes) h None part suits.holds in
          subst (λ i. pairs_under (views nodes) (Some i) (finite.len nodes) ≡ items_under (K × V) h part) here (represented-is (views nodes) h (finite.len nodes) None (id_of (K × V) h part) (items_under (K × V) h part) (omega arith) shape)

      part-numbers : (n : ℕ) → times_listed n (numbers_met (views nodes) (Some root)) ≡ times_under (K × V) h n part
      unfolding numbers_met
      part-numbers n =
          subst (λ i. times_listed n (numbers_met (views nodes) (Some i)) ≡ times_under (K × V) h n part) here
          (ap (times_listed n) (numbers-more (views nodes) h 32 None part (omega arith) suits.holds) ∙ numbers-subtree (K × V) (views nodes) n h None part suits.holds)

      part-once : (n : ℕ) → times_listed n (numbers_met (views nodes) (Some root)) ≤ 1
      part-once n = elim (zero-or (times_listed n (numbers_met (views nodes) (Some root)))) [
        | inl unlisted ↦ omega arith
        | inr some ↦
            let m = (numbers-met (views nodes) (Some root) n).0 some in
            let o = passed cmp laws nodes IsFirst m.at (none m.way m.at m.met) in
            let i = subst (HasItem cmp laws nodes IsFirst) m.is (some-item cmp laws nodes IsFirst m.at o) in
            let once = times-once cmp laws i.item.0 (views nodes) n i.node i.there i.item.1 i.more i.items h None part suits.holds (rises cmp (items_under (K × V) h part) suits.ascends) in
            let same = part-numbers n in
            omega arith
      ]

      part-readable : IsReadable cmp nodes (Some root)
      part-readable = record {
        once = part-once;
        list = part-items ∙ sym part-list;
        ascends = subst (Ascends cmp) (sym part-items) suits.ascends;
      }

    pub root-readable : IsReadable cmp nodes (Some root)
    root-readable =
        let f = first-leaf cmp laws nodes IsFirst 32 (root_spot root) (omega arith) (omega arith) none in
        let o = passed cmp laws nodes IsFirst f.at (none f.way f.at f.first.met) in
        let low = o.low in
        let b = build cmp laws nodes IsFirst f.at.depth (f.way, f.at, f.first, refl) (omega arith) f.at.depth (root_spot root) (omega arith) none in
        part-readable f.at.depth low b.part b.stands.here b.stands.suits

  -- without a root nothing is met
  pub none-readable : IsReadable cmp nodes None
  unfolding items_met numbers_met
  none-readable = record { once = λ n. omega arith; list = refl; ascends = Ascends-none cmp }
