-- The walk decides whether the tree is off by one at a node.
use Rattle.btree_valid.proofs.Common.{◌≡◌, ◌∙◌, ◌+◌, ℕ, length, Option, Some, None, Result, Ok, option_copied, option_map, sym, ap, subst, arith, IsTotalOrder, Ordering, Ascends, Fault, view_of, Node, Content, id_of, items_under, Represents, numbers_under, views, times_listed, times_used, used-one, numbers-subtree, represents-of, BeginsAt, CanMeet, MeetsAt, FindsAt, Suits, Exempt, Met, Spot}
use Rattle.std.proofs.Common.{IsSome}
use Rattle.std.specs.FinMap as finite
use Rattle.btree_laws.proofs.Trees.Subtrees.{subtree-of}
use Rattle.btree_laws.proofs.Trees.Stores.{len-views}
use Rattle.btree_valid.specs.OffByOne.{IsOffByOneAmong}
use Rattle.btree_valid.proofs.TreeLemmas.{retarget, used-once}

module _ {K V : Type 0} (content : Content (Node K V)) (cmp : K → K → Ordering) (root id : ℕ) where
  -- the node that is off by one is there
  pub off-there : IsOffByOneAmong cmp content root id → finite.get content id ≡ None → ⊥
  off-there off none =
      let used = off.1.used in
      let gone : views content id ≡ None = ap (option_map view_of) none in
      let some = subst IsSome gone used in
      absurd (cc)

  abbrev exempt : Option Exempt
  exempt = Some (record { root = root; id = id })

  module _ (count : ℕ) (all : count ≡ finite.len content) (met : Met) (unmet : met.leaf_level ≡ None) (left : met.nodes ≡ Some count)
      (spot : Spot K) (level : spot.level ≡ 0) (here : spot.id ≡ root) (parent : spot.parent ≡ None) (min : option_copied spot.min ≡ None) (max : option_copied spot.max ≡ None) where
    -- the walk of a tree that is off by one meets all nodes
    pub off-met : IsOffByOneAmong cmp content root id → (answer : Result Met Fault) → MeetsAt content cmp exempt spot met answer → (after : Met) × (answer ≡ Ok after) × (after.nodes ≡ Some 0)
    off-met off answer meets =
        let w = off.1 in
        let h : ℕ = w.rooted.height in
        let t = subtree-of (K × V) (views content) h None root off.0 w.rooted.represents in
        let suits : Suits exempt cmp None None (views content) None h t.subtree = record {
          holds = t.holds;
          sized = λ n v some at. w.rooted.sized n v at;
          ascends = subst (Ascends cmp) (sym t.list) w.ascends;
          between = record { above = tt; below = tt };
        } in
        let begins : BeginsAt content cmp exempt spot h t.subtree = record {
          here = t.here ∙ sym here;
          low = let l = w.low in omega arith;
          suits = rw (parent, min, max) suits;
        } in
        let can : CanMeet (spot.level + h) met = rw unmet tt in
        let m = meets h t.subtree begins can in
        let same = len-views content (numbers_under (views content) h root) w.rooted.once in
        let listed : length (numbers_under (views content) h root) ≡ length (numbers_under (views content) h (id_of (K × V) h t.subtree)) = ap (λ i. length (numbers_under (views content) h i)) (sym t.here) in
        (m.0, m.1, m.2.nodes 0 (left ∙ ap Some (omega arith)))

    -- and if it meets all nodes, the tree is off by one
    pub off-found : IsTotalOrder cmp → IsSome (views content id) → (answer : Result Met Fault) → FindsAt content cmp exempt spot met answer → (after : Met) → answer ≡ Ok after → after.nodes ≡ Some 0 → IsOffByOneAmong cmp content root id
    off-found laws used answer finds after ok none =
        let found = subst (λ a. FindsAt content cmp exempt spot met a) ok finds in
        let h : ℕ = found.0 in
        let f = found.1 in
        let suits : Suits exempt cmp None None (views content) None h f.part = retarget cmp exempt (views content) h f.part (option_copied spot.min) (option_copied spot.max) None None spot.parent None min max parent f.begins.suits in
        let at_root : id_of (K × V) h f.part ≡ root = f.begins.here ∙ here in
        let counted : count ≡ length (numbers_under (views content) h (id_of (K × V) h f.part)) = (let e : Some count ≡ Some (length (numbers_under (views content) h (id_of (K × V) h f.part)) + 0) = sym left ∙ f.nodes 0 none in let g : count ≡ length (numbers_under (views content) h (id_of (K × V) h f.part)) + 0 = cc in omega arith) in
        let once = used-once content cmp laws root id h f.part at_root suits.holds suits.ascends suits.sized (sym all ∙ counted) in (
          items_under (K × V) h f.part,
          record {
            ascends = suits.ascends;
            rooted = record {
              height = h;
              represents = subst (λ i. Represents (views content) h None i (items_under (K × V) h f.part)) at_root (represents-of (K × V) (views content) h None f.part suits.holds);
              sized = λ n v at. suits.sized n v (let o = once n in let u = used-one (views content n) v at in omega arith) at;
              once = λ n. subst (λ i. times_listed n (numbers_under (views content) h i) ≡ times_used (views content n)) at_root (numbers-subtree (K × V) (views content) n h None f.part suits.holds ∙ once n);
            };
            low = let l = f.begins.low in omega arith;
            used = used;
          },
        )
