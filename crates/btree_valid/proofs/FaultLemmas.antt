-- What the walk of the validator has met at a node, and after each of its children.
use Rattle.btree_valid.proofs.Common.{◌≡◌, ◌≤◌, ◌<◌, ◌∷◌, [], ◌∙◌, ◌+◌, ℕ, zero, suc, List, length, drop, is_some, true, false, Some, None, Result, Ok, Err, option_copied, slice_get, refl, sym, ap, subst, arith, IfSome, Ordering, Fault, Node, Content, separator_after, separator_before, View, children_of, size_of, total, Subtree, count_at, items_under, view_at, numbers_under, views, top-view, view-size, nearest_of, BeginsAt, CanMeet, MeetsAt, Suits, PassesNode, Exempt, Option, Met, Spot}
use Rattle.std.proofs.Math.ListN.{drop_of_length-le}
use Rattle.btree_valid.specs.Spots.{HasMet, IsFewer, Meets, PassesAtSpot}
use Rattle.btree_valid.proofs.SuitsLemmas.{ChildAt, all-suit, child-at, items-total, numbers-total, numbers_in, parts-count, parts_under}
use Rattle.btree_valid.proofs.VerdictLemmas.{own-node}

module _ {K V : Type 0} (content : Content (Node K V)) (cmp : K → K → Ordering) (exempt : Option Exempt) (spot : Spot K) (met : Met) where
  -- the walk is in the part below its root, and the children from `index` on come next
  pub record IsInPart (h : ℕ) (t : Subtree (K × V) (suc h)) (index : ℕ) (passed : Met) : Type 0 where
    pub can : CanMeet (spot.level + suc h) passed
    pub leaves : 0 < index → passed.leaf_level ≡ Some (spot.level + suc h)
    pub items : (n : ℕ) → met.items ≡ Some (length (items_under (K × V) (suc h) t) + n) → passed.items ≡ Some (total (λ s. length (items_under (K × V) h s)) (drop index (parts_under h t)) + n)
    pub nodes : (n : ℕ) → met.nodes ≡ Some (length (numbers_under (views content) (suc h) t.0) + n) → passed.nodes ≡ Some (total (numbers_in h (views content)) (drop index (parts_under h t)) + n)

  -- for each part that is as it should be
  abbrev pub AreLeft : (index : ℕ) (passed : Met) → Type 0
  AreLeft index passed = (h : ℕ) (t : Subtree (K × V) (suc h)) → BeginsAt content cmp exempt spot (suc h) t → CanMeet (spot.level + suc h) met → IsInPart h t index passed

  -- no part begins where there is no node
  pub nothing-begins : views content spot.id ≡ None → (h : ℕ) (t : Subtree (K × V) h) → BeginsAt content cmp exempt spot h t → ⊥
  nothing-begins none h t b =
      let here = subst (λ i. views content i ≡ Some (view_at (K × V) h spot.parent t)) b.here (top-view (K × V) (views content) h spot.parent t b.suits.holds) in
      let is : None ≡ Some (view_at (K × V) h spot.parent t) = sym none ∙ here in
      cc

  -- the node at the spot
  module _ (v : View (K × V)) (at : views content spot.id ≡ Some v) where
    pub own-is : (h : ℕ) (t : Subtree (K × V) h) → BeginsAt content cmp exempt spot h t → v ≡ view_at (K × V) h spot.parent t
    own-is h t b =
        let top = top-view (K × V) (views content) h spot.parent t b.suits.holds in
        let here : views content spot.id ≡ Some (view_at (K × V) h spot.parent t) = subst (λ i. views content i ≡ Some (view_at (K × V) h spot.parent t)) b.here top in
        let is : Some v ≡ Some (view_at (K × V) h spot.parent t) = sym at ∙ here in
        cc

    -- it passes its checks
    pub here-passes : (h : ℕ) (t : Subtree (K × V) h) → BeginsAt content cmp exempt spot h t → PassesAtSpot cmp exempt spot v
    here-passes h t b =
        subst (λ u. PassesAtSpot cmp exempt spot u) (sym (own-is h t b))
        (subst (λ i. PassesNode cmp exempt i spot.parent (option_copied spot.min) (option_copied spot.max) (view_at (K × V) h spot.parent t)) b.here
        (own-node cmp exempt (option_copied spot.min) (option_copied spot.max) (views content) spot.parent h t b.suits))

    module _ (counted : Met) (same : counted.leaf_level ≡ met.leaf_level) (items : IsFewer met.items (size_of v) counted.items) (nodes : IsFewer met.nodes 1 counted.nodes) where
      can-still : (deepest : ℕ) → CanMeet deepest met → CanMeet deepest counted
      can-still deepest can = subst (λ l. IfSome l (λ first. first ≡ deepest)) (sym same) can

      -- a leaf is met with its items
      pub leaf-met : is_some (slice_get (children_of v) 0) ≡ false → (answer : Result Met Fault) → (CanMeet spot.level counted → answer ≡ Ok (record counted { leaf_level = Some spot.level }))
          → (h : ℕ) (t : Subtree (K × V) h) → BeginsAt content cmp exempt spot h t → CanMeet (spot.level + h) met → HasMet content (spot.level + h) h t met answer
      leaf-met none answer meets zero t b can =
          let low : spot.level + 0 ≡ spot.level = omega arith in
          let own = own-is zero t b in
          let size : size_of v ≡ length t.1 = ap size_of own in
          let still = can-still (spot.level + 0) can in (
            record counted { leaf_level = Some spot.level },
            meets (subst (λ d. CanMeet d counted) low still),
            record {
              leaves = ap Some (sym low);
              items = λ n e. items n (e ∙ ap (λ k. Some (k + n)) (sym size));
              nodes = λ n e. nodes n e;
            },
          )
      leaf-met none answer meets (suc h) t b can =
          let own = own-is (suc h) t b in
          let some : is_some (slice_get (children_of (view_at (K × V) (suc h) spot.parent t)) 0) ≡ false = subst (λ u. is_some (slice_get (children_of u) 0) ≡ false) own none in
          absurd (cc)

      -- an internal node has its children left
      pub inner-start : AreLeft 0 counted
      inner-start h t b can = record {
        can = can-still (spot.level + suc h) can;
        leaves = λ some. absurd (omega arith);
        items = λ n e.
            let own = own-is (suc h) t b in
            let size : size_of v ≡ count_at (K × V) (suc h) t = ap size_of own ∙ view-size (K × V) (suc h) spot.parent t in
            let all = items-total h t in
            let more : ℕ = total (λ s. length (items_under (K × V) h s)) (parts_under h t) in
            let sum : length (items_under (K × V) (suc h) t) + n ≡ size_of v + (more + n) = omega arith in
            items (more + n) (e ∙ ap Some sum);
        nodes = λ n e.
            let all = numbers-total h (views content) spot.parent t b.suits.holds.0 in
            let more : ℕ = total (numbers_in h (views content)) (parts_under h t) in
            let sum : length (numbers_under (views content) (suc h) t.0) + n ≡ 1 + (more + n) = omega arith in
            nodes (more + n) (e ∙ ap Some sum);
      }

    module _ (inner : is_some (slice_get (children_of v) 0) ≡ true) where
      -- no part at an internal node is a leaf
      pub not-leaf : (t : Subtree (K × V) 0) → BeginsAt content cmp exempt spot 0 t → ⊥
      not-leaf t b =
          let own = own-is zero t b in
          let none : is_some (slice_get (children_of (view_at (K × V) 0 spot.parent t)) 0) ≡ true = subst (λ u. is_some (slice_get (children_of u) 0) ≡ true) own inner in
          cc

      module _ (index : ℕ) (passed : Met) (left : AreLeft index passed) where
        -- after the last child the node is met
        pub inner-end : length (children_of v) ≤ index → (answer : Result Met Fault) → answer ≡ Ok passed
            → (h : ℕ) (t : Subtree (K × V) h) → BeginsAt content cmp exempt spot h t → CanMeet (spot.level + h) met → HasMet content (spot.level + h) h t met answer
        inner-end last answer ok zero t b can = absurd (not-leaf t b)
        inner-end last answer ok (suc h) t b can =
            let own = own-is (suc h) t b in
            let w = left h t b can in
            let count : length (parts_under h t) ≤ index = let c = parts-count h t in let e = ap (λ u. length (children_of u)) own in omega arith in
            let none : drop index (parts_under h t) ≡ [] = drop_of_length-le (parts_under h t) count in
            let nothing : (n : ℕ) → 0 + n ≡ n = λ n. omega arith in (
              passed,
              ok,
              record {
                leaves = w.leaves (omega arith);
                items = λ n e. w.items n e ∙ ap (λ l. Some (total (λ s. length (items_under (K × V) h s)) l + n)) none ∙ ap Some (nothing n);
                nodes = λ n e. w.nodes n e ∙ ap (λ l. Some (total (numbers_in h (views content)) l + n)) none ∙ ap Some (nothing n);
              },
            )

        module _ (child : ℕ) (found : Some child ≡ slice_get (children_of v) index) (below : Spot K) (level : below.level ≡ spot.level + 1) (parent : below.parent ≡ Some spot.id) (id : below.id ≡ child)
            (min : option_copied below.min ≡ nearest_of (separator_before v index) (option_copied spot.min)) (max : option_copied below.max ≡ nearest_of (separator_after v index) (option_copied spot.max)) where
          child-part : (h : ℕ) (t : Subtree (K × V) (suc h)) → BeginsAt content cmp exempt spot (suc h) t
              → ChildAt cmp exempt (views content) h (option_copied spot.min) (option_copied spot.max) spot.parent (Some t.0) t.1 t.2 index child
          child-part h t b =
              child-at cmp exempt (views content) h (Some t.0) (option_copied spot.min) (option_copied spot.max) spot.parent t.1 t.2 (all-suit cmp exempt (views content) h (option_copied spot.min) (option_copied spot.max) spot.parent t b.suits)
              index child (found ∙ ap (λ u. slice_get (children_of u) index) (own-is (suc h) t b))

          -- the child is as it should be at its spot
          child-begins : (h : ℕ) (t : Subtree (K × V) (suc h)) (b : BeginsAt content cmp exempt spot (suc h) t) → (c : ChildAt cmp exempt (views content) h (option_copied spot.min) (option_copied spot.max) spot.parent (Some t.0) t.1 t.2 index child)
              → BeginsAt content cmp exempt below h c.part
          child-begins h t b c =
              let own = own-is (suc h) t b in
              let near : option_copied below.min ≡ nearest_of (separator_before (view_at (K × V) (suc h) spot.parent t) index) (option_copied spot.min) = min ∙ ap (λ u. nearest_of (separator_before u index) (option_copied spot.min)) own in
              let far : option_copied below.max ≡ nearest_of (separator_after (view_at (K × V) (suc h) spot.parent t) index) (option_copied spot.max) = max ∙ ap (λ u. nearest_of (separator_after u index) (option_copied spot.max)) own in
              let up : below.parent ≡ Some t.0 = parent ∙ ap Some (sym b.here) in
              record {
                here = c.here ∙ sym id;
                low = let l = b.low in omega arith;
                suits = subst (λ p. Suits exempt cmp (option_copied below.min) (option_copied below.max) (views content) p h c.part) (sym up)
                    (subst (λ m. Suits exempt cmp m (option_copied below.max) (views content) (Some t.0) h c.part) (sym near)
                    (subst (λ m. Suits exempt cmp (nearest_of (separator_before (view_at (K × V) (suc h) spot.parent t) index) (option_copied spot.min)) m (views content) (Some t.0) h c.part) (sym far) c.suits));
              }

          module _ (answer : Result Met Fault) (always : MeetsAt content cmp exempt below passed answer) where
            child-met : (h : ℕ) (t : Subtree (K × V) (suc h)) (b : BeginsAt content cmp exempt spot (suc h) t) → CanMeet (spot.level + suc h) met
                → (c : ChildAt cmp exempt (views content) h (option_copied spot.min) (option_copied spot.max) spot.parent (Some t.0) t.1 t.2 index child) → HasMet content (spot.level + suc h) h c.part passed answer
            child-met h t b can c =
                let deep : below.level + h ≡ spot.level + suc h = omega arith in
                let w = left h t b can in
                subst (λ d. HasMet content d h c.part passed answer) deep (always h c.part (child-begins h t b c) (subst (λ d. CanMeet d passed) (sym deep) w.can))

            -- the walk of the child finds no fault
            pub child-ok : (fault : Fault) → answer ≡ Err fault → (h : ℕ) (t : Subtree (K × V) h) → BeginsAt content cmp exempt spot h t → CanMeet (spot.level + h) met → ⊥
            child-ok fault err zero t b can = not-leaf t b
            child-ok fault err (suc h) t b can = let m = child-met h t b can (child-part h t b) in let e = m.1 in cc

            -- and then the children after it come next
            pub child-next : (after : Met) → answer ≡ Ok after → AreLeft (index + 1) after
            child-next after ok h t b can =
                let c = child-part h t b in
                let m = child-met h t b can c in
                let w = left h t b can in
                let one : suc index ≡ index + 1 = omega arith in
                let is : m.0 ≡ after = (let e = m.1 in cc) in
                let met_it : Meets content (spot.level + suc h) h c.part passed after = subst (λ a. Meets content (spot.level + suc h) h c.part passed a) is m.2 in
                record {
                  can = subst (λ l. IfSome l (λ first. first ≡ spot.level + suc h)) (sym met_it.leaves) refl;
                  leaves = λ some. met_it.leaves;
                  items = λ n e.
                      let more : ℕ = total (λ s. length (items_under (K × V) h s)) (drop (index + 1) (parts_under h t)) in
                      let next = subst (λ i. total (λ s. length (items_under (K × V) h s)) (drop index (parts_under h t)) ≡ length (items_under (K × V) h c.part) + total (λ s. length (items_under (K × V) h s)) (drop i (parts_under h t))) one (c.next (λ s. length (items_under (K × V) h s))) in
                      let sum : total (λ s. length (items_under (K × V) h s)) (drop index (parts_under h t)) + n ≡ length (items_under (K × V) h c.part) + (more + n) = omega arith in
                      met_it.items (more + n) (w.items n e ∙ ap Some sum);
                  nodes = λ n e.
                      let more : ℕ = total (numbers_in h (views content)) (drop (index + 1) (parts_under h t)) in
                      let next = subst (λ i. total (numbers_in h (views content)) (drop index (parts_under h t)) ≡ numbers_in h (views content) c.part + total (numbers_in h (views content)) (drop i (parts_under h t))) one (c.next (numbers_in h (views content))) in
                      let sum : total (numbers_in h (views content)) (drop index (parts_under h t)) + n ≡ numbers_in h (views content) c.part + (more + n) = omega arith in
                      met_it.nodes (more + n) (w.nodes n e ∙ ap Some sum);
                }

-- a test of an index that is not below a length, and one that is
pub past-end : {X : Type 0} (xs : List X) (index : ℕ) → index < length xs → None ≡ slice_get xs index → ⊥
past-end [] index low e = omega arith
past-end (x ∷ xs) zero low e = cc
past-end (x ∷ xs) (suc index) low e = past-end xs index (omega arith) e
