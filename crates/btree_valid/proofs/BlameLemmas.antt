-- A fault that the walk of the validator answers in a well formed tree is one of the arguments.
use Rattle.btree_valid.proofs.Common.{◌≡◌, ◌≤◌, ◌<◌, ◌∙◌, ◌+◌, ℕ, zero, suc, length, is_some, true, false, Option, Some, None, Result, Ok, Err, option_copied, slice_get, refl, sym, ap, subst, arith, ⊤, IfSome, Ordering, Fault, NoNode, WrongParent, Overflowing, Underflowing, EmptyRoot, Unsorted, BelowSeparator, AboveSeparator, TooDeep, NotBalanced, WrongLength, Unreachable, OverLimit, Node, Content, IsNodeVerdict, separator_after, separator_before, View, children_of, Subtree, count_at, items_under, view_at, views, rises, Allows, AreBetween, nearest_of, BeginsAt, BlamesAt, CanMeet, Met, Spot}
use Rattle.btree_valid.specs.Spots.{IsAnswerFor, freed}
use Rattle.btree_valid.proofs.FaultLemmas.{not-leaf, own-is}
use Rattle.btree_valid.proofs.SuitsLemmas.{ChildAt, child-at, parts-count}
use Rattle.btree_valid.proofs.VerdictLemmas.{own-blamed}

module _ {K V : Type 0} (content : Content (Node K V)) (cmp : K → K → Ordering) (spot : Spot K) (met : Met) where
  -- the walk is in a part below its root, and has met no leaf on another level; after the first child it has met one
  abbrev pub AreMet : (index : ℕ) (passed : Met) → Type 0
  AreMet index passed = (own : Option ℕ) (h : ℕ) (t : Subtree (K × V) (suc h)) → BeginsAt content cmp None (freed content cmp spot own) (suc h) t → CanMeet (spot.level + suc h) met
      → CanMeet (spot.level + suc h) passed × (0 < index → passed.leaf_level ≡ Some (spot.level + suc h))

  -- no part begins on a level that is too deep
  pub too-deep : 32 ≤ spot.level → (own : Option ℕ) (h : ℕ) (t : Subtree (K × V) h) → BeginsAt content cmp None (freed content cmp spot own) h t → ⊥
  too-deep deep own h t b = let low = b.low in omega arith

  -- the walk has met nothing below a node that it has entered
  pub start-met : (counted : Met) → counted.leaf_level ≡ met.leaf_level → AreMet 0 counted
  start-met counted same own h t b can = (subst (λ l. IfSome l (λ first. first ≡ spot.level + suc h)) (sym same) can, λ some. absurd (omega arith))

  module _ (v : View (K × V)) (at : views content spot.id ≡ Some v) where
    own-view : (own : Option ℕ) (h : ℕ) (t : Subtree (K × V) h) → BeginsAt content cmp None (freed content cmp spot own) h t → v ≡ view_at (K × V) h own t
    own-view own h t b = own-is content cmp None (freed content cmp spot own) met v at h t b

    -- the node's own checks
    pub verdict-blamed : (answer : Result ⊤ Fault) → IsNodeVerdict cmp spot.parent (option_copied spot.min) (option_copied spot.max) v answer
        → (fault : Fault) → answer ≡ Err fault → BlamesAt content cmp spot met (Err fault)
    verdict-blamed answer verdict fault err own h t b can =
        own-blamed cmp None None (views content) own h t b.suits spot.parent (option_copied spot.min) (option_copied spot.max) v (own-view own h t b) answer verdict fault err

    -- a leaf is met
    pub leaf-blamed : is_some (slice_get (children_of v) 0) ≡ false → (counted : Met) → counted.leaf_level ≡ met.leaf_level → (answer : Result Met Fault)
        → (CanMeet spot.level counted → answer ≡ Ok (record counted { leaf_level = Some spot.level })) → BlamesAt content cmp spot met answer
    leaf-blamed none counted same answer meets own zero t b can =
        let low : spot.level + 0 ≡ spot.level = omega arith in
        let still : CanMeet (spot.level + 0) counted = subst (λ l. IfSome l (λ first. first ≡ spot.level + 0)) (sym same) can in
        subst (IsAnswerFor content cmp spot own zero t) (sym (meets (subst (λ d. CanMeet d counted) low still))) (ap Some (sym low))
    leaf-blamed none counted same answer meets own (suc h) t b can =
        let some : is_some (slice_get (children_of (view_at (K × V) (suc h) own t)) 0) ≡ false = subst (λ u. is_some (slice_get (children_of u) 0) ≡ false) (own-view own (suc h) t b) none in
        absurd (cc)

    module _ (inner : is_some (slice_get (children_of v) 0) ≡ true) (index : ℕ) (passed : Met) (left : AreMet index passed) where
      -- after the last child the leaves are met
      pub end-blamed : length (children_of v) ≤ index → BlamesAt content cmp spot met (Ok passed)
      end-blamed last own zero t b can = absurd (not-leaf content cmp None (freed content cmp spot own) met v at inner t b)
      end-blamed last own (suc h) t b can =
          let c = parts-count h t in
          let e = ap (λ u. length (children_of u)) (own-view own (suc h) t b) in
          (left own h t b can).1 (omega arith)

      module _ (child : ℕ) (found : Some child ≡ slice_get (children_of v) index) (below : Spot K) (level : below.level ≡ spot.level + 1) (parent : below.parent ≡ Some spot.id) (id : below.id ≡ child)
          (min : option_copied below.min ≡ nearest_of (separator_before v index) (option_copied spot.min)) (max : option_copied below.max ≡ nearest_of (separator_after v index) (option_copied spot.max))
          (answer : Result Met Fault) (blames : BlamesAt content cmp below passed answer) where
        module _ (own : Option ℕ) (h : ℕ) (t : Subtree (K × V) (suc h)) (b : BeginsAt content cmp None (freed content cmp spot own) (suc h) t) (can : CanMeet (spot.level + suc h) met) where
          abbrev Child : (low high : Option K) → Type 0
          Child low high = ChildAt cmp None (views content) h low high own (Some t.0) t.1 t.2 index child

          child-between : (low high : Option K) → AreBetween cmp low high (items_under (K × V) (suc h) t) → Child low high
          child-between low high between =
              child-at cmp None (views content) h (Some t.0) low high own t.1 t.2 (record {
                rise = rises cmp (items_under (K × V) (suc h) t) b.suits.ascends;
                between = between;
                holds = (b.suits.holds.1, b.suits.holds.2);
                sized = b.suits.sized.1;
              }) index child (found ∙ ap (λ u. slice_get (children_of u) index) (own-view own (suc h) t b))

          child-begins : (low high : Option K) (c : Child low high) → BeginsAt content cmp None (freed content cmp below (Some t.0)) h c.part
          child-begins low high c = record {
            here = c.here ∙ sym id;
            low = let l = b.low in omega arith;
            suits = record {
              holds = c.suits.holds;
              sized = ((let f = c.full in omega arith, c.suits.sized.0.1), c.suits.sized.1);
              ascends = c.suits.ascends;
              between = record { above = tt; below = tt };
            };
          }

          child-level : below.level + h ≡ spot.level + suc h
          child-level = omega arith

          child-answer : (low high : Option K) (c : Child low high) → IsAnswerFor content cmp below (Some t.0) h c.part answer
          child-answer low high c = blames (Some t.0) h c.part (child-begins low high c) (subst (λ d. CanMeet d passed) (sym child-level) (left own h t b can).0)

          any-child : Child None None
          any-child = child-between None None (record { above = tt; below = tt })

          child-fault : (fault : Fault) → answer ≡ Err fault → (low high : Option K) (c : Child low high)
              → Allows cmp (Some t.0) (count_at (K × V) h c.part) (items_under (K × V) h c.part) below.parent (option_copied below.min) (option_copied below.max) fault → ⊥
          child-fault fault err low high c = subst (IsAnswerFor content cmp below (Some t.0) h c.part) err (child-answer low high c)

          here : v ≡ view_at (K × V) (suc h) own t
          here = own-view own (suc h) t b

          -- what is between the separators of the spot is between those of the child
          low-child : (c : Child (option_copied spot.min) None) → AreBetween cmp (option_copied below.min) None (items_under (K × V) h c.part)
          low-child c =
              let near : option_copied below.min ≡ nearest_of (separator_before (view_at (K × V) (suc h) own t) index) (option_copied spot.min) = min ∙ ap (λ u. nearest_of (separator_before u index) (option_copied spot.min)) here in
              subst (λ m. AreBetween cmp m None (items_under (K × V) h c.part)) (sym near) (record { above = c.suits.between.above; below = tt })

          high-child : (c : Child None (option_copied spot.max)) → AreBetween cmp None (option_copied below.max) (items_under (K × V) h c.part)
          high-child c =
              let far : option_copied below.max ≡ nearest_of (separator_after (view_at (K × V) (suc h) own t) index) (option_copied spot.max) = max ∙ ap (λ u. nearest_of (separator_after u index) (option_copied spot.max)) here in
              subst (λ m. AreBetween cmp None m (items_under (K × V) h c.part)) (sym far) (record { above = tt; below = c.suits.between.below })

          by : (fault : Fault) → answer ≡ Err fault
              → Allows cmp own (count_at (K × V) (suc h) t) (items_under (K × V) (suc h) t) spot.parent (option_copied spot.min) (option_copied spot.max) fault → ⊥
          by WrongParent err a = child-fault WrongParent err None None any-child (sym (parent ∙ ap Some (sym b.here)))
          by Underflowing err a = child-fault Underflowing err None None any-child (λ no. any-child.full)
          by BelowSeparator err a = let c = child-between (option_copied spot.min) None a in child-fault BelowSeparator err (option_copied spot.min) None c (low-child c)
          by AboveSeparator err a = let c = child-between None (option_copied spot.max) a in child-fault AboveSeparator err None (option_copied spot.max) c (high-child c)
          by NoNode err a = child-fault NoNode err None None any-child tt
          by Overflowing err a = child-fault Overflowing err None None any-child tt
          by EmptyRoot err a = child-fault EmptyRoot err None None any-child tt
          by Unsorted err a = child-fault Unsorted err None None any-child tt
          by TooDeep err a = child-fault TooDeep err None None any-child tt
          by NotBalanced err a = child-fault NotBalanced err None None any-child tt
          by WrongLength err a = child-fault WrongLength err None None any-child tt
          by Unreachable err a = child-fault Unreachable err None None any-child tt
          by OverLimit err a = child-fault OverLimit err None None any-child tt

        -- the fault of a child
        pub child-blamed : (fault : Fault) → answer ≡ Err fault → BlamesAt content cmp spot met (Err fault)
        child-blamed fault err own zero t b can = absurd (not-leaf content cmp None (freed content cmp spot own) met v at inner t b)
        child-blamed fault err own (suc h) t b can = by own h t b can fault err

        -- and without one the children after it come next
        pub next-met : (after : Met) → answer ≡ Ok after → AreMet (index + 1) after
        next-met after ok own h t b can =
            let c = any-child own h t b can in
            let leaves : after.leaf_level ≡ Some (below.level + h) = subst (IsAnswerFor content cmp below (Some t.0) h c.part) ok (child-answer own h t b can None None c) in
            let deep : after.leaf_level ≡ Some (spot.level + suc h) = leaves ∙ ap Some (child-level own h t b can) in
            (subst (λ l. IfSome l (λ first. first ≡ spot.level + suc h)) (sym deep) refl, λ some. deep)
