-- The fault that the walk of the validator answers is the first from its spot on.
use Rattle.btree_valid.proofs.Common.{◌≡◌, ◌∙◌, ◌+◌, ◌<◌, ◌≤◌, ◌∷◌, [], ℕ, zero, suc, inl, inr, List, length, is_some, true, false, Option, Some, None, Result, Ok, Err, option_copied, slice_get, refl, sym, ap, subst, arith, IsTotalOrder, ⊤, IfSome, Ordering, Fault, NoNode, TooDeep, NotBalanced, Node, Content, IsNodeVerdict, separator_after, separator_before, View, children_of, Subtree, id_of, views, IsFirstLeaf, IsMetBelow, Leads, Spotted, nearest_of, step_down, CanMeet, Met, Spot}
use Rattle.std.specs.Prelude.{IfErr}
use Rattle.btree_valid.specs.Names.{IsFirstLevel, Knows, NamesAt, spotted}
use Rattle.btree_valid.specs.PositionLaws.{leaf-depth-once, met-once}
use Rattle.btree_valid.specs.Positions.{IsFirstFaultAmong}
use Rattle.btree_valid.proofs.ExactLemmas.{AllSuit, AreFound, ChildSuits, IsDone}
use Rattle.btree_valid.proofs.PartNames.{StandsAt, Verdict, all-checked, balance-fails, child-first, deep-fails, first-below, from-child, here-first, leftmost, own-fails, part-first, part-passes, unused-fails}

some-first : (ns : List ℕ) → is_some (slice_get ns 0) ≡ true → (n : ℕ) × (slice_get ns 0 ≡ Some n)
some-first [] some = absurd (cc)
some-first (n ∷ ns) some = (n, refl)

none-first : (ns : List ℕ) → is_some (slice_get ns 0) ≡ false → ns ≡ []
none-first [] none = refl
none-first (n ∷ ns) none = absurd (cc)

none-inner : (ns : List ℕ) → is_some (slice_get ns 0) ≡ true → ns ≡ [] → ⊥
none-inner [] some e = cc
none-inner (n ∷ ns) some e = cc

module _ {K V : Type 0} (content : Content (Node K V)) (cmp : K → K → Ordering) (h : ℕ) (parent : Option ℕ) (min max : Option K) (v : View (K × V)) where
  -- the part of the child at an index
  suit-at : (start : ℕ) (ps : List (Subtree (K × V) h)) → AllSuit content cmp None h parent min max v start ps → (i : ℕ) → i < length ps
      → (p : Subtree (K × V) h) × ChildSuits content cmp None h parent min max v (start + i) p
  suit-at start [] all i low = absurd (omega arith)
  suit-at start (p ∷ ps) all zero low = (p, subst (λ j. ChildSuits content cmp None h parent min max v j p) (omega arith) all.0)
  suit-at start (p ∷ ps) all (suc i) low =
      let s = suit-at (suc start) ps all.1 i (omega arith) in
      (s.0, subst (λ j. ChildSuits content cmp None h parent min max v j s.0) (omega arith) s.1)

module _ {K V : Type 0} (content : Content (Node K V)) (cmp : K → K → Ordering) (spot : Spot K) (met : Met) where
  level-once : (origin : Spotted K) (m n : ℕ) → IsFirstLevel content origin m → IsFirstLevel content origin n → m ≡ n
  level-once origin = leaf-depth-once (views content) (IsMetBelow (views content) origin) (met-once (views content) origin)

  here : (origin : Spotted K) → Knows content origin spot met → (fault : Fault) → Verdict cmp (views content) (IsFirstLevel content origin) (spotted spot) (Err fault)
      → IsFirstFaultAmong cmp (views content) (IsFirstLevel content origin) (IsMetBelow (views content) (spotted spot)) fault
  here origin k fault fails = here-first (views content) cmp (IsFirstLevel content origin) (spotted spot) (let l = k.low in omega arith) fault fails

  -- a number that is not used
  pub names-unused : views content spot.id ≡ None → NamesAt content cmp spot met (Err NoNode)
  names-unused none origin k = here origin k NoNode (unused-fails cmp (views content) (IsFirstLevel content origin) (spotted spot) none)

  module _ (v : View (K × V)) (at : views content spot.id ≡ Some v) where
    abbrev Own : Result ⊤ Fault → Type 0
    Own answer = IsNodeVerdict cmp spot.parent (option_copied spot.min) (option_copied spot.max) v answer

    -- the node's own checks
    pub names-own : (answer : Result ⊤ Fault) → Own answer → (fault : Fault) → answer ≡ Err fault → NamesAt content cmp spot met (Err fault)
    names-own answer verdict fault err origin k = here origin k fault (own-fails cmp (views content) (IsFirstLevel content origin) (spotted spot) v at fault (subst Own err verdict))

    module _ (answer : Result ⊤ Fault) (ok : answer ≡ Ok tt) (verdict : Own answer) where
      own-ok : Own (Ok tt)
      own-ok = subst Own ok verdict

      -- a level that is too deep
      pub names-deep : 32 ≤ spot.level → NamesAt content cmp spot met (Err TooDeep)
      names-deep deep origin k = here origin k TooDeep (deep-fails cmp (views content) (IsFirstLevel content origin) (spotted spot) v at own-ok deep)

      module _ (low : spot.level < 32) where
        -- a leaf on another level than the first
        pub names-leaf : is_some (slice_get (children_of v) 0) ≡ false → (counted : Met) → counted.leaf_level ≡ met.leaf_level → (result : Result Met Fault)
            → IfErr result (λ fault. (fault ≡ NotBalanced) × (CanMeet spot.level counted → ⊥)) → NamesAt content cmp spot met result
        names-leaf none counted same (Ok after) f origin k = tt
        names-leaf none counted same (Err fault) f origin k = subst (IsFirstFaultAmong cmp (views content) (IsFirstLevel content origin) (IsMetBelow (views content) (spotted spot))) (sym f.0) (by counted.leaf_level refl) where
          by : (o : Option ℕ) → counted.leaf_level ≡ o → IsFirstFaultAmong cmp (views content) (IsFirstLevel content origin) (IsMetBelow (views content) (spotted spot)) NotBalanced
          by None e = absurd (f.1 (subst (λ l. IfSome l (λ first. first ≡ spot.level)) (sym e) tt))
          by (Some first) e =
              let is : IsFirstLevel content origin first = subst (λ l. IfSome l (IsFirstLevel content origin)) (sym same ∙ e) k.first in
              here origin k NotBalanced
              (balance-fails cmp (views content) (IsFirstLevel content origin) (spotted spot) v at own-ok low (none-first (children_of v) none) first is
              (λ equal. f.1 (subst (λ l. IfSome l (λ n. n ≡ spot.level)) (sym e) (sym equal))))

        module _ (laws : IsTotalOrder cmp) (inner : is_some (slice_get (children_of v) 0) ≡ true) where
          own-inner : (origin : Spotted K) → Verdict cmp (views content) (IsFirstLevel content origin) (spotted spot) (Ok tt)
          own-inner origin = all-checked cmp (views content) (IsFirstLevel content origin) (spotted spot) v at own-ok low (λ l. absurd (none-inner (children_of v) inner (let is : l.0 ≡ v = (let e = l.1 in cc) in ap children_of (sym is) ∙ l.2)))

          module _ (index : ℕ) (passed : Met) where
            module _ (w : AreFound content cmp laws None spot met v index passed) where
              -- the part of a child that was passed
              child-part : (i child : ℕ) → i < index → slice_get (children_of v) i ≡ Some child
                  → (p : Subtree (K × V) w.height) × StandsAt cmp (views content) w.height p (step_down (spotted spot) v i child)
              child-part i child before found =
                  let s = suit-at content cmp w.height (Some spot.id) (option_copied spot.min) (option_copied spot.max) v 0 w.parts w.suit i (let a = w.all in omega arith) in
                  let c = subst (λ j. ChildSuits content cmp None w.height (Some spot.id) (option_copied spot.min) (option_copied spot.max) v j s.0) (let e : 0 + i ≡ i = omega arith in e) s.1 in
                  let is : id_of (K × V) w.height s.0 ≡ child = (let e = c.here in cc) in
                  (s.0, record { here = is; suits = c.suits })

              -- its leaves are on the level of the first
              found-level : (origin : Spotted K) → Knows content origin spot met → IsFirstLevel content origin (spot.level + suc w.height)
              found-level origin k = by met.leaf_level refl where
                by : (o : Option ℕ) → met.leaf_level ≡ o → IsFirstLevel content origin (spot.level + suc w.height)
                by (Some first) e =
                    let is : first ≡ spot.level + suc w.height = subst (λ l. IfSome l (λ n. n ≡ spot.level + suc w.height)) e w.can in
                    subst (IsFirstLevel content origin) is (subst (λ l. IfSome l (IsFirstLevel content origin)) e k.first)
                by None e =
                    let some = some-first (children_of v) inner in
                    let c = child-part 0 some.0 w.some some.1 in
                    let low_here = w.low in
                    let f = part-first cmp (views content) w.height c.0 (step_down (spotted spot) v 0 some.0) c.1 (omega arith) in
                    let first = first-below (views content) (spotted spot) v some.0 at some.1 (leftmost w.height) f.at f.first in
                    let deep : f.at.depth ≡ spot.level + suc w.height = (let d = f.depth_is in omega arith) in
                    subst (IsFirstLevel content origin) deep (k.next e (0 ∷ leftmost w.height) f.at first)

            earlier : (origin : Spotted K) → Knows content origin spot met → IsDone content cmp laws None spot met v index passed → (i : ℕ) → i < index
                → (way : List ℕ) (a : Spotted K) → Leads (views content) (spotted spot) (i ∷ way) a → Verdict cmp (views content) (IsFirstLevel content origin) a (Ok tt)
            earlier origin k (inl start) i before way a l = (let none = start.0 in absurd (omega arith))
            earlier origin k (inr w) i before way a l =
                let node : l.0 ≡ v = (let e = l.2 in cc) in
                let kid : slice_get (children_of v) i ≡ Some l.1 = ap (λ n. slice_get (children_of n) i) (sym node) ∙ l.3 in
                let c = child-part w i l.1 before kid in
                let low_here = w.low in
                part-passes cmp (views content) (IsFirstLevel content origin) w.height c.0 (step_down (spotted spot) v i l.1) c.1 (omega arith)
                (λ n is. let e = level-once origin n (spot.level + suc w.height) is (found-level w origin k) in omega arith) way a
                (from-child (views content) (spotted spot) v i l.1 at kid i refl way a l)

            module _ (child : ℕ) (found : Some child ≡ slice_get (children_of v) index) (below : Spot K) (level : below.level ≡ spot.level + 1) (parent : below.parent ≡ Some spot.id) (id : below.id ≡ child)
                (min : option_copied below.min ≡ nearest_of (separator_before v index) (option_copied spot.min)) (max : option_copied below.max ≡ nearest_of (separator_after v index) (option_copied spot.max)) where
              below-is : spotted below ≡ step_down (spotted spot) v index child
              below-is = λ i. record { depth = level i; id = id i; parent = parent i; min = min i; max = max i }

              -- what the walk knows at the child
              child-knows : (origin : Spotted K) → Knows content origin spot met → IsDone content cmp laws None spot met v index passed → Knows content origin below passed
              child-knows origin k (inl start) = record {
                low = omega arith;
                first = subst (λ l. IfSome l (IsFirstLevel content origin)) (sym start.1.leaves) k.first;
                next = λ none way a f.
                    let zero_is : spotted below ≡ step_down (spotted spot) v 0 child = below-is ∙ ap (λ j. step_down (spotted spot) v j child) start.0 in
                    k.next (sym start.1.leaves ∙ none) (0 ∷ way) a
                    (first-below (views content) (spotted spot) v child at (ap (slice_get (children_of v)) (sym start.0) ∙ sym found) way a
                    (subst (λ s. IsFirstLeaf (views content) (IsMetBelow (views content) s) way a) zero_is f));
              }
              child-knows origin k (inr w) = record {
                low = omega arith;
                first = subst (λ l. IfSome l (IsFirstLevel content origin)) (sym w.leaves) (found-level w origin k);
                next = λ none way a f. (let e = w.leaves in absurd (cc));
              }

              -- the fault of a child
              pub names-child : IsDone content cmp laws None spot met v index passed → (result : Result Met Fault) → NamesAt content cmp below passed result → (fault : Fault) → result ≡ Err fault
                  → NamesAt content cmp spot met (Err fault)
              names-child done result names fault err origin k =
                  child-first (views content) cmp (IsFirstLevel content origin) (spotted spot) v index child at (sym found) (own-inner origin) (earlier origin k done) fault
                  (subst (λ s. IsFirstFaultAmong cmp (views content) (IsFirstLevel content origin) (IsMetBelow (views content) s) fault) below-is
                  (subst (λ a. IfErr a (IsFirstFaultAmong cmp (views content) (IsFirstLevel content origin) (IsMetBelow (views content) (spotted below)))) err (names origin (child-knows origin k done))))
