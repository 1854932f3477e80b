-- What the walk of the validator from a start has met, if it finds no fault.
use Rattle.btree_valid.proofs.Common.{◌<◌, ◌≡◌, ◌∙◌, ◌+◌, ◌≤◌, ◌∷◌, ◌++◌, [], ℕ, zero, suc, inl, inr, List, length, map, Option, Some, None, Result, Ok, Err, option_copied, refl, sym, ap, subst, arith, IsTotalOrder, AllByRecursion, flat_map, IfSome, Ordering, Fault, Node, Content, NodeMap, children_in, Holds, Subtree, id_of, items_under, Represents, numbers_under, views, represented-is, represents-of, IsLeafDepth, IsMetBelow, root_spot, FindsAt, MeetsAt, Suits, numbers_met, NamesTree, Met, Spot}
use Rattle.std.specs.FinMap as finite
use Rattle.std.specs.Option.{unwrap_or}
use Rattle.std.specs.Prelude.{IfErr}
use Rattle.btree_valid.specs.Names.{IsFirstLevel, Knows, NamesAt, spotted}
use Rattle.btree_valid.specs.PositionLaws.{leaf-depth-once, met-once}
use Rattle.btree_valid.specs.Positions.{HasNoFault, IsFirstFault, start_spot}
use Rattle.btree_valid.specs.Spots.{HasFoundPart, Meets}
use Rattle.btree_valid.specs.Verdicts.{items_met, HasMetTree, IsVerdictBelow}
use Rattle.btree_valid.proofs.PartNames.{StandsAt, leftmost, part-first, part-passes}
use Rattle.btree_valid.proofs.TreeLemmas.{numbers-low, retarget}

module _ {A : Type 0} (node_at : NodeMap A) where
  -- more levels than a part has add no number
  rest-more : (h k p : ℕ) (bs : List (A × Subtree A h)) → ((t : Subtree A h) → Holds A node_at h (Some p) t → numbers_under node_at k (id_of A h t) ≡ numbers_under node_at h (id_of A h t))
      → AllByRecursion (λ b. Holds A node_at h (Some p) b.1) bs
      → flat_map (numbers_under node_at k) (map {B = ℕ} (λ b. b.1) (map {B = A × ℕ} (λ (b : A × Subtree A h). (b.0, id_of A h b.1)) bs))
      ≡ flat_map (numbers_under node_at h) (map {B = ℕ} (λ b. b.1) (map {B = A × ℕ} (λ (b : A × Subtree A h). (b.0, id_of A h b.1)) bs))
  rest-more h k p [] each all = refl
  rest-more h k p (b ∷ bs) each all =
      ap (λ z. z ++ flat_map (numbers_under node_at k) (map {B = ℕ} (λ b. b.1) (map {B = A × ℕ} (λ (b : A × Subtree A h). (b.0, id_of A h b.1)) bs))) (each b.1 all.0)
      ∙ ap (λ z. numbers_under node_at h (id_of A h b.1) ++ z) (rest-more h k p bs each all.1)

  pub numbers-more : (h k : ℕ) (p : Option ℕ) (t : Subtree A h) → h ≤ k → Holds A node_at h p t → numbers_under node_at k (id_of A h t) ≡ numbers_under node_at h (id_of A h t)
  numbers-more zero zero p t low d = refl
  numbers-more zero (suc k) p t low d = ap (λ v. t.0 ∷ flat_map (numbers_under node_at k) (children_in v)) d
  numbers-more (suc h) zero p t low d = absurd (omega arith)
  numbers-more (suc h) (suc k) p t low d =
      ap (λ v. t.0 ∷ flat_map (numbers_under node_at k) (children_in v)) d.0
      ∙ (ap (λ z. t.0 ∷ (z ++ flat_map (numbers_under node_at k) (map {B = ℕ} (λ b. b.1) (map {B = A × ℕ} (λ (b : A × Subtree A h). (b.0, id_of A h b.1)) t.2)))) (numbers-more h k (Some t.0) t.1 (omega arith) d.1)
      ∙ (ap (λ z. t.0 ∷ (numbers_under node_at h (id_of A h t.1) ++ z)) (rest-more h k t.0 t.2 (λ u e. numbers-more h k (Some t.0) u (omega arith) e) d.2)
      ∙ ap (λ v. t.0 ∷ flat_map (numbers_under node_at h) (children_in v)) (sym d.0)))

  numbers-met-is : (h : ℕ) (t : Subtree A h) → h < 32 → Holds A node_at h None t → numbers_met node_at (Some (id_of A h t)) ≡ numbers_under node_at h (id_of A h t)
  unfolding numbers_met
  numbers-met-is h t low d = numbers-more h 32 None t (omega arith) d

items-met-is : {K V : Type 0} (node_at : NodeMap (K × V)) (h root : ℕ) (xs : List (K × V)) → h < 32 → Represents node_at h None root xs → items_met node_at (Some root) ≡ xs
unfolding items_met
items-met-is node_at h root xs low r = represented-is node_at h 33 None root xs (omega arith) r

items-met-none : {K V : Type 0} (node_at : NodeMap (K × V)) → length (items_met node_at None) ≡ 0
unfolding items_met
items-met-none node_at = refl

numbers-met-none : {A : Type 0} (node_at : NodeMap A) → length (numbers_met node_at None) ≡ 0
unfolding numbers_met
numbers-met-none node_at = refl

module _ {K V : Type 0} (content : Content (Node K V)) (cmp : K → K → Ordering) (spot : Spot K) (met : Met) (top : spot.level ≡ 0) (unmet : met.leaf_level ≡ None) where
  -- a walk begins with nothing met
  pub knows-origin : Knows content (spotted spot) spot met
  knows-origin = record {
    low = omega arith;
    first = subst (λ l. IfSome l (IsFirstLevel content (spotted spot))) (sym unmet) tt;
    next = λ none way a f. (way, a, f, refl);
  }

  module _ (after : Met) (height : ℕ) (f : HasFoundPart content cmp None spot met after height) where
    stands : StandsAt cmp (views content) height f.part (spotted spot)
    stands = record { here = f.begins.here; suits = f.begins.suits }

    -- a part is found: its leaves are on the level of the first, and no position below the start has a fault
    pub found-depth : IsFirstLevel content (spotted spot) height
    found-depth =
        let low = f.begins.low in
        let p = part-first cmp (views content) height f.part (spotted spot) stands (omega arith) in
        (leftmost height, p.at, p.first, (let d = p.depth_is in omega arith))

    pub found-faultless : HasNoFault cmp (views content) (IsMetBelow (views content) (spotted spot))
    found-faultless way at m =
        part-passes cmp (views content) (IsFirstLevel content (spotted spot)) height f.part (spotted spot) stands (let low = f.begins.low in omega arith)
        (λ n is. let e = leaf-depth-once (views content) (IsMetBelow (views content) (spotted spot)) (met-once (views content) (spotted spot)) n height is found-depth in omega arith) way at m.leads

module _ {K V : Type 0} (content : Content (Node K V)) (cmp : K → K → Ordering) (len : ℕ) where
  -- without a root nothing is met
  pub none-named : (nodes : ℕ) → nodes ≡ finite.len content → (met : Met) → met.items ≡ Some len → met.nodes ≡ Some nodes → NamesTree cmp content None len (Ok met)
  none-named nodes count met items left =
      let no_item = items-met-none (views content) in
      let no_number = numbers-met-none (views content) in
      record {
        none = λ way at m. absurd m;
        all_items = (λ none. let e : Some len ≡ Some 0 = sym items ∙ none in let z : len ≡ 0 = cc in omega arith, λ no. items ∙ ap Some (omega arith));
        all_nodes = (λ none. let e : Some nodes ≡ Some 0 = sym left ∙ none in let z : nodes ≡ 0 = cc in omega arith, λ no. left ∙ ap Some (omega arith));
      }

  module _ (laws : IsTotalOrder cmp) (root : ℕ) (nodes : ℕ) (count : nodes ≡ finite.len content) (met : Met) (unmet : met.leaf_level ≡ None) (items : met.items ≡ Some len) (left : met.nodes ≡ Some nodes)
      (spot : Spot K) (top : spot.level ≡ 0) (id : spot.id ≡ root) (parent : spot.parent ≡ None) (min : option_copied spot.min ≡ None) (max : option_copied spot.max ≡ None) where
    spot-is : spotted spot ≡ root_spot root
    spot-is = λ i. record { depth = top i; id = id i; parent = parent i; min = min i; max = max i }

    all-met : (after : Met) (h : ℕ) → HasFoundPart content cmp None spot met after h → MeetsAt content cmp None spot met (Ok after) → HasMetTree cmp content (Some root) len after
    all-met after h f meets =
        let suits : Suits None cmp None None (views content) None h f.part = retarget cmp None (views content) h f.part (option_copied spot.min) (option_copied spot.max) None None spot.parent None min max parent f.begins.suits in
        let here : id_of (K × V) h f.part ≡ root = f.begins.here ∙ id in
        let few_numbers = numbers-low content cmp len laws root h f.part here suits in
        let shape = represents-of (K × V) (views content) h None f.part suits.holds in
        let low : h < 32 = (let l = f.begins.low in omega arith) in
        let list : items_met (views content) (Some root) ≡ items_under (K × V) h f.part =
        subst (λ i. items_met (views content) (Some i) ≡ items_under (K × V) h f.part) here (items-met-is (views content) h (id_of (K × V) h f.part) (items_under (K × V) h f.part) low shape) in
        let numbers : numbers_met (views content) (Some root) ≡ numbers_under (views content) h (id_of (K × V) h f.part) =
        ap (λ i. numbers_met (views content) (Some i)) (sym here) ∙ numbers-met-is (views content) h f.part low suits.holds in
        let many : length (items_met (views content) (Some root)) ≡ length (items_under (K × V) h f.part) = ap length list in
        let more : length (numbers_met (views content) (Some root)) ≡ length (numbers_under (views content) h (id_of (K × V) h f.part)) = ap length numbers in
        let m = meets h f.part f.begins f.can in
        let is : m.0 ≡ after = (let e = m.1 in cc) in
        let met_it : Meets content (spot.level + h) h f.part met after = subst (λ a. Meets content (spot.level + h) h f.part met a) is m.2 in
        record {
          none = subst (λ s. HasNoFault cmp (views content) (IsMetBelow (views content) s)) spot-is (found-faultless content cmp spot met top unmet after h f);
          all_items = (
            λ none. let e : Some len ≡ Some (length (items_under (K × V) h f.part) + 0) = sym items ∙ f.items 0 none in let z : len ≡ length (items_under (K × V) h f.part) + 0 = cc in omega arith,
            λ same. met_it.items 0 (items ∙ ap Some (omega arith)),
          );
          all_nodes = (
            λ none. let e : Some nodes ≡ Some (length (numbers_under (views content) h (id_of (K × V) h f.part)) + 0) = sym left ∙ f.nodes 0 none in let z : nodes ≡ length (numbers_under (views content) h (id_of (K × V) h f.part)) + 0 = cc in omega arith,
            λ few. met_it.nodes 0 (left ∙ ap Some (omega arith)),
          );
        }

    -- the answer for the whole tree
    pub all-named : (answer : Result Met Fault) → FindsAt content cmp None spot met answer → MeetsAt content cmp None spot met answer → NamesAt content cmp spot met answer → NamesTree cmp content (Some root) len answer
    all-named (Err fault) finds meets names = subst (λ s. IsFirstFault cmp (views content) (IsMetBelow (views content) s) fault) spot-is (names (spotted spot) (knows-origin content cmp spot met top unmet))
    all-named (Ok after) finds meets names = all-met after finds.0 finds.1 meets

module _ {K V : Type 0} (content : Content (Node K V)) (cmp : K → K → Ordering) (id : ℕ) (parent : Option ℕ) (min max : Option K) (met : Met) (unmet : met.leaf_level ≡ None)
    (spot : Spot K) (top : spot.level ≡ 0) (is : spot.id ≡ id) (up : spot.parent ≡ parent) (near : option_copied spot.min ≡ min) (far : option_copied spot.max ≡ max) where
  start-is : spotted spot ≡ start_spot id parent min max
  start-is = λ i. record { depth = top i; id = is i; parent = up i; min = near i; max = far i }

  -- a fault under a node
  pub node-named : (answer : Result Met Fault) → NamesAt content cmp spot met answer → (fault : Fault) → answer ≡ Err fault → IsVerdictBelow cmp content (start_spot id parent min max) (Err fault)
  node-named answer names fault err =
      let found = subst (λ a. IfErr a (IsFirstFault cmp (views content) (IsMetBelow (views content) (spotted spot)))) err (names (spotted spot) (knows-origin content cmp spot met top unmet)) in
      inl (fault, subst (λ s. IsFirstFault cmp (views content) (IsMetBelow (views content) s) fault) start-is found, refl)

  -- and none
  pub node-passed : (after : Met) → FindsAt content cmp None spot met (Ok after) → (depth : ℕ) → depth ≡ unwrap_or after.leaf_level 0 → IsVerdictBelow cmp content (start_spot id parent min max) (Ok depth)
  node-passed after finds depth at =
      let f = finds.1 in
      let height : ℕ = finds.0 in
      let deep : spot.level + height ≡ depth = sym (at ∙ ap (λ o. unwrap_or o 0) f.leaves) in
      let same : height ≡ depth = omega arith in
      let first : IsLeafDepth (views content) (IsMetBelow (views content) (spotted spot)) height = found-depth content cmp spot met top unmet after height f in
      let none = found-faultless content cmp spot met top unmet after height f in
      inr (
        subst (λ s. HasNoFault cmp (views content) (IsMetBelow (views content) s)) start-is none,
        depth,
        subst (λ s. IsLeafDepth (views content) (IsMetBelow (views content) s) depth) start-is (subst (IsLeafDepth (views content) (IsMetBelow (views content) (spotted spot))) same first),
        refl,
      )
