-- A tree in which the walk of the validator found no fault is well formed.
use Rattle.btree_valid.proofs.Common.{◌≡◌, ◌≤◌, ◌<◌, [], ◌∙◌, ◌+◌, ℕ, inl, inr, length, Option, Some, None, Result, Ok, Err, option_copied, option_map, refl, sym, ap, subst, arith, nat_tests, IsTotalOrder, IsFalse, Ordering, Fault, view_of, Node, Content, is_judged_as_root, NodeMap, View, most_of, size_of, Holds, Subtree, count_at, id_of, items_under, times_under, view_at, times_listed, Represents, numbers_under, represented, pairs_under, views, IsNearlySized, least_allowed, times_used, rises, one-other, top-view, numbers-subtree, same-or, used-one, represented-is, view-parent, view-size, represents-of, AreBetween, FindsAt, Suits, Exempt, Ascends, least_between, Met, Spot}
use Rattle.std.proofs.Common.{◌≢◌}
use Rattle.std.specs.FinMap as finite
use Rattle.btree_item.proofs.PairEdits.{Ascends-none}
use Rattle.btree_laws.specs.Focus.Focus.{IsFocus}
use Rattle.btree_laws.specs.Focus.Path.{Path, parent_above}
use Rattle.btree_laws.specs.Focus.Search.{levels_below}
use Rattle.btree_laws.specs.Focus.Subtree.{most_at}
use Rattle.btree_laws.specs.TreeState.{IsBTree, TreeState, node_map, unlimited}
use Rattle.btree_laws.specs.WellFormed.{IsRooted, IsSized, IsWellFormed}
use Rattle.btree_laws.proofs.Paths.FromRoot.{node-at}
use Rattle.btree_laws.proofs.Paths.Levels.{levels-rooted}
use Rattle.btree_laws.proofs.Paths.UnsizedFocus.{focus-unsized}
use Rattle.btree_laws.proofs.Trees.Heights.{levels-is}
use Rattle.btree_laws.proofs.Trees.Numbers.{used-mapped, used-none, used-there}
use Rattle.btree_laws.proofs.Trees.Sizes.{below-middle, least-low, least-root, view-most}
use Rattle.btree_laws.proofs.Trees.States.{height_held, is-tree}
use Rattle.btree_valid.specs.Faults.{SuitsNode}
use Rattle.btree_valid.specs.Spots.{FindsTree}
use Rattle.btree_valid.proofs.OnceLemmas.{all-used, few, listed-low}

-- a part that suits at a spot, with the parent and the separators there by other names
pub retarget : {K V : Type 0} (cmp : K → K → Ordering) (exempt : Option Exempt) (node_at : NodeMap (K × V)) (h : ℕ) (t : Subtree (K × V) h) (min max a b : Option K) (parent p : Option ℕ) → min ≡ a → max ≡ b → parent ≡ p → Suits exempt cmp min max node_at parent h t → Suits exempt cmp a b node_at p h t
retarget cmp exempt node_at h t min max a b parent p near far up s =
    subst (λ z. Suits exempt cmp a b node_at z h t) up (subst (λ z. Suits exempt cmp a z node_at parent h t) far (subst (λ z. Suits exempt cmp z max node_at parent h t) near s))

least-nearly : (root n : ℕ) → least_allowed root root n ≤ 3
least-nearly root n = elim (same-or n root) [ inl same ↦ grind (arith, nat_tests) | inr other ↦ grind (arith, nat_tests) ]

least-there : (root n : ℕ) → n ≡ root → least_allowed root root n ≡ 0
least-there root n same = grind (arith, nat_tests)

module _ {K V : Type 0} (content : Content (Node K V)) (cmp : K → K → Ordering) (laws : IsTotalOrder cmp) (root exempt h : ℕ) (t : Subtree (K × V) h) (here : id_of (K × V) h t ≡ root) (holds : Holds (K × V) (views content) h None t)
    (up : Ascends cmp (items_under (K × V) h t)) (sized : (n : ℕ) (v : View (K × V)) → 0 < times_under (K × V) h n t → views content n ≡ Some v → IsNearlySized root exempt n v) where
  few-listed : (n : ℕ) → times_listed n (numbers_under (views content) h (id_of (K × V) h t)) ≤ times_used (finite.get content n)
  few-listed n =
      let q = numbers-subtree (K × V) (views content) n h None t holds in
      let l = few cmp laws (views content) root exempt h t here holds (rises cmp (items_under (K × V) h t) up) sized n in
      let z = used-mapped view_of (finite.get content n) in
      omega arith

  -- a tree has at most as many numbers as the store
  pub listed-few : length (numbers_under (views content) h (id_of (K × V) h t)) ≤ finite.len content
  listed-few = listed-low (numbers_under (views content) h (id_of (K × V) h t)) content few-listed

  -- and if it has as many, each used number once
  pub used-once : finite.len content ≡ length (numbers_under (views content) h (id_of (K × V) h t)) → (n : ℕ) → times_under (K × V) h n t ≡ times_used (views content n)
  used-once count n =
      sym (numbers-subtree (K × V) (views content) n h None t holds)
      ∙ (all-used (numbers_under (views content) h (id_of (K × V) h t)) content few-listed count n ∙ sym (used-mapped view_of (finite.get content n)))

module _ {K V : Type 0} (content : Content (Node K V)) (cmp : K → K → Ordering) (len : ℕ) where
  -- nothing came, and nothing was there
  pub none-found : (nodes : ℕ) → nodes ≡ finite.len content → (met : Met) → met.items ≡ Some len → met.nodes ≡ Some nodes → FindsTree content cmp None len (Ok met)
  none-found nodes count met items left none gone =
      let no_item : len ≡ 0 = (let e : Some len ≡ Some 0 = sym items ∙ none in cc) in
      let no_node : nodes ≡ 0 = (let e : Some nodes ≡ Some 0 = sym left ∙ gone in cc) in
      let unused = all-used [] content (λ n. omega arith) (omega arith) in
      record {
        ascends = Ascends-none cmp;
        formed = (λ n. ap (option_map view_of) (used-none (finite.get content n) (sym (unused n))), refl);
        counted = no_item;
      }

  module _ (laws : IsTotalOrder cmp) (root : ℕ) (h : ℕ) (t : Subtree (K × V) h) (here : id_of (K × V) h t ≡ root) (s : Suits None cmp None None (views content) None h t) where
    at-top : (n : ℕ) (v : View (K × V)) → n ≡ root → views content n ≡ Some v → (1 ≤ size_of v) × (size_of v ≤ most_of v)
    at-top n v same at =
        let top : views content n ≡ Some (view_at (K × V) h None t) = subst (λ i. views content i ≡ Some (view_at (K × V) h None t)) (here ∙ sym same) (top-view (K × V) (views content) h None t s.holds) in
        let is : v ≡ view_at (K × V) h None t = (let e : Some v ≡ Some (view_at (K × V) h None t) = sym at ∙ top in cc) in
        let size : size_of v ≡ count_at (K × V) h t = ap size_of is ∙ view-size (K × V) h None t in
        let most : most_of v ≡ most_at h = ap most_of is ∙ view-most (K × V) h None t in
        let low = s.sized.0.0 in
        let high = s.sized.0.1 in
        (omega arith, omega arith)

    below-top : (n : ℕ) (v : View (K × V)) → n ≢ root → 0 < times_under (K × V) h n t → views content n ≡ Some v → (3 ≤ size_of v) × (size_of v ≤ most_of v)
    below-top n v other some at = below-middle (K × V) (views content) h None t s.holds s.sized.1 n (one-other n (id_of (K × V) h t) (λ e. other (e ∙ here))) some v at

    nearly : (n : ℕ) (v : View (K × V)) → 0 < times_under (K × V) h n t → views content n ≡ Some v → IsNearlySized root root n v
    nearly n v some at = elim (same-or n root) [
      | inl same ↦ let z = at-top n v same at in let z0 = z.0 in let z1 = z.1 in let l = least-there root n same in (omega arith, omega arith)
      | inr other ↦ let z = below-top n v other some at in let z0 = z.0 in let z1 = z.1 in let l = least-nearly root n in (omega arith, omega arith)
    ]

    -- its numbers are at most as many as those of the store
    pub numbers-low : length (numbers_under (views content) h (id_of (K × V) h t)) ≤ finite.len content
    numbers-low = listed-few content cmp laws root root h t here s.holds s.ascends nearly

    module _ (count : finite.len content ≡ length (numbers_under (views content) h (id_of (K × V) h t))) where
      once : (n : ℕ) → times_under (K × V) h n t ≡ times_used (views content n)
      once n = used-once content cmp laws root root h t here s.holds s.ascends nearly count n

      rooted : IsRooted (IsSized root) (views content) root (items_under (K × V) h t)
      rooted = record {
        height = h;
        represents = subst (λ i. Represents (views content) h None i (items_under (K × V) h t)) here (represents-of (K × V) (views content) h None t s.holds);
        sized = λ n v at. elim (same-or n root) [
          | inl same ↦ let z = at-top n v same at in let z0 = z.0 in let z1 = z.1 in let l = least-root root n same in (omega arith, omega arith)
          | inr other ↦
              let e = once n in
              let u = used-one (views content n) v at in
              let z = below-top n v other (omega arith) at in
              let z0 = z.0 in
              let z1 = z.1 in
              let l = least-low root n in
              (omega arith, omega arith)
        ];
        once = λ n. subst (λ i. times_listed n (numbers_under (views content) h i) ≡ times_used (views content n)) here (numbers-subtree (K × V) (views content) n h None t s.holds ∙ once n);
      }

  -- all that came is one tree
  pub all-found : IsTotalOrder cmp → (root : ℕ) (nodes : ℕ) → nodes ≡ finite.len content → (met : Met) → met.items ≡ Some len → met.nodes ≡ Some nodes
      → (spot : Spot K) → spot.id ≡ root → spot.parent ≡ None → option_copied spot.min ≡ None → option_copied spot.max ≡ None
      → (answer : Result Met Fault) → FindsAt content cmp None spot met answer → FindsTree content cmp (Some root) len answer
  all-found laws root nodes count met items left spot id parent min max (Err fault) finds = tt
  all-found laws root nodes count met items left spot id parent min max (Ok after) finds = λ none gone.
      let f = finds.1 in
      let h : ℕ = finds.0 in
      let suits : Suits None cmp None None (views content) None h f.part = retarget cmp None (views content) h f.part (option_copied spot.min) (option_copied spot.max) None None spot.parent None min max parent f.begins.suits in
      let here : id_of (K × V) h f.part ≡ root = f.begins.here ∙ id in
      let all_items : len ≡ length (items_under (K × V) h f.part) = (let e : Some len ≡ Some (length (items_under (K × V) h f.part) + 0) = sym items ∙ f.items 0 none in let g : len ≡ length (items_under (K × V) h f.part) + 0 = cc in omega arith) in
      let all_nodes : nodes ≡ length (numbers_under (views content) h (id_of (K × V) h f.part)) = (let e : Some nodes ≡ Some (length (numbers_under (views content) h (id_of (K × V) h f.part)) + 0) = sym left ∙ f.nodes 0 gone in let g : nodes ≡ length (numbers_under (views content) h (id_of (K × V) h f.part)) + 0 = cc in omega arith) in
      is-tree cmp (record { nodes = content; root = Some root; len = len; kept = unlimited 0 }) (items_under (K × V) h f.part) (record {
        ascends = suits.ascends;
        formed = rooted laws root h f.part here suits (sym count ∙ all_nodes);
        counted = all_items;
      })

module _ {K V : Type 0} (cmp : K → K → Ordering) (tree : TreeState K V) (id : ℕ) (parent : Option ℕ) (min max : Option K) where
  three-items : (min max : Option K) (n : ℕ) → least_between min max ≤ n → IsFalse (is_judged_as_root min max) → 3 ≤ n
  three-items None None n low other = absurd (cc)
  three-items None (Some k) n low other = low
  three-items (Some k) max n low other = low

  -- a part at a node of a well formed tree has fewer levels than the tree has nodes
  part-low : (root : Option ℕ) → IsWellFormed cmp (node_map tree) root tree.len (pairs_under (node_map tree) root (finite.len tree.nodes)) → (h : ℕ) (p : Option ℕ) (t : Subtree (K × V) h) → id_of (K × V) h t ≡ id → Holds (K × V) (node_map tree) h p t → h < finite.len tree.nodes
  part-low None w h p t here holds =
      let top = top-view (K × V) (node_map tree) h p t holds in
      let none : None ≡ Some (view_at (K × V) h p t) = sym (w.formed.0 (id_of (K × V) h t)) ∙ top in
      absurd (cc)
  part-low (Some root) w h p t here holds =
      let top = top-view (K × V) (node_map tree) h p t holds in
      let used = used-there (node_map tree) (id_of (K × V) h t) (view_at (K × V) h p t) top in
      let n = node-at (K × V) (node_map tree) root _ w.formed (id_of (K × V) h t) used in
      at n.focus.height n.focus.path n.focus.subtree n.focus.here n.focus.whole
    where
      at : (k : ℕ) (c : Path (K × V) k) (u : Subtree (K × V) k) → id_of (K × V) k u ≡ id_of (K × V) h t → IsFocus (K × V) (node_map tree) [] root (represented (node_map tree) (finite.len tree.nodes) root) k c u → h < finite.len tree.nodes
      at k c u same whole =
          let levels = levels-rooted (K × V) (node_map tree) root _ _ w.formed k c u (focus-unsized (K × V) (node_map tree) [] root _ k c u whole) in
          let held = height_held tree _ root _ w.formed in
          let a = levels-is (K × V) (node_map tree) h (h + k) p t (omega arith) holds in
          let b = levels-is (K × V) (node_map tree) k (h + k) (parent_above c) u (omega arith) whole.inner in
          let equal : levels_below (node_map tree) (h + k) (id_of (K × V) k u) ≡ levels_below (node_map tree) (h + k) (id_of (K × V) h t) = ap (levels_below (node_map tree) (h + k)) same in
          omega arith

  -- the arguments suit a node under which the walk found no fault
  pub node-suits : (content : Content (Node K V)) → tree.nodes ≡ content → IsBTree cmp tree → (met : Met) (spot : Spot K) → spot.id ≡ id → spot.parent ≡ parent → option_copied spot.min ≡ min → option_copied spot.max ≡ max
      → (after : Met) → FindsAt content cmp None spot met (Ok after) → SuitsNode cmp tree id parent min max
  node-suits content same w met spot is up near far after finds =
      let found = subst (λ nodes. FindsAt nodes cmp None spot met (Ok after)) (sym same) finds in
      let h : ℕ = found.0 in
      let f = found.1 in
      let suits : Suits None cmp min max (node_map tree) parent h f.part = retarget cmp None (node_map tree) h f.part (option_copied spot.min) (option_copied spot.max) min max spot.parent parent near far up f.begins.suits in
      let here : id_of (K × V) h f.part ≡ id = f.begins.here ∙ is in
      let low = part-low tree.root w h parent f.part here suits.holds in
      let list : represented (node_map tree) (finite.len tree.nodes) id ≡ items_under (K × V) h f.part =
      subst (λ i. represented (node_map tree) (finite.len tree.nodes) i ≡ items_under (K × V) h f.part) here
      (represented-is (node_map tree) h (finite.len tree.nodes) parent (id_of (K × V) h f.part) (items_under (K × V) h f.part) low (represents-of (K × V) (node_map tree) h parent f.part suits.holds)) in
      let size = view-size (K × V) h parent f.part in
      record {
        node = view_at (K × V) h parent f.part;
        at = subst (λ i. node_map tree i ≡ Some (view_at (K × V) h parent f.part)) here (top-view (K × V) (node_map tree) h parent f.part suits.holds);
        parent_is = view-parent (K × V) h parent f.part;
        filled = λ no. let three = three-items min max (count_at (K × V) h f.part) suits.sized.0.0 no in omega arith;
        between = subst (AreBetween cmp min max) (sym list) suits.between;
      }
