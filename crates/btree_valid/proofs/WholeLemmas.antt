-- A well formed tree and its nodes at the spot where the walk begins.
use Rattle.btree_valid.proofs.Common.{◌≡◌, ◌≤◌, ◌<◌, ◌++◌, [], ◌∙◌, ◌+◌, ℕ, List, length, Option, Some, None, Result, Ok, Err, option_copied, refl, sym, ap, subst, arith, IsFalse, Ordering, Fault, Ascends, Node, Content, is_judged_as_root, View, parent_of, size_of, Holds, IsFilled, Subtree, count_at, id_of, items_under, view_at, numbers_under, represented, pairs_under, views, Rises, ascends, rises, rises-left, top-view, represented-is, view-parent, view-size, represents-of, Allows, AreBetween, BeginsAt, BlamesAt, CanMeet, MeetsAt, Suits, least_between, Met, Spot}
use Rattle.std.proofs.Common.{◌^◌}
use Rattle.std.specs.FinMap as finite
use Rattle.btree_laws.specs.Focus.Focus.{IsFocus}
use Rattle.btree_laws.specs.Focus.Path.{Path, items_after, items_before, least_at, parent_above}
use Rattle.btree_laws.specs.Focus.Search.{levels_below}
use Rattle.btree_laws.specs.TreeState.{IsBTree, TreeState, node_map, unlimited}
use Rattle.btree_laws.specs.WellFormed.{IsRooted, IsSized, IsWellFormed}
use Rattle.btree_laws.proofs.LookUp.KeyInList.{rises-right}
use Rattle.btree_laws.proofs.Paths.FromRoot.{HasSubtree, node-at, rooted-subtree}
use Rattle.btree_laws.proofs.Paths.Levels.{levels-rooted}
use Rattle.btree_laws.proofs.Paths.UnsizedFocus.{focus-unsized}
use Rattle.btree_laws.proofs.Trees.Density.{height-low}
use Rattle.btree_laws.proofs.Trees.Heights.{levels-is, low-enough}
use Rattle.btree_laws.proofs.Trees.Numbers.{used-there}
use Rattle.btree_laws.proofs.Trees.States.{few-nodes, height_held}
use Rattle.btree_laws.proofs.Trees.Stores.{len-views}
use Rattle.btree_valid.specs.Faults.{SuitsNode, depth_below}
use Rattle.btree_valid.specs.Spots.{MeetsTree}

module _ {K V : Type 0} (content : Content (Node K V)) (cmp : K → K → Ordering) (len : ℕ) where
  -- without a root nothing may come
  pub none-comes : (nodes : ℕ) → nodes ≡ finite.len content → (met : Met) → met.items ≡ Some len → met.nodes ≡ Some nodes → MeetsTree content cmp None len (Ok met)
  none-comes nodes count met items left w =
      let few = few-nodes cmp (record { nodes = content; root = None; len = len; kept = unlimited 0 }) w in
      let none : len ≡ 0 = w.counted in
      let gone : nodes ≡ 0 = omega arith in
      (met, refl, items ∙ ap Some none, left ∙ ap Some gone)

  module _ (root : ℕ) (low : len < 2 ^ 64) where
    -- the whole tree is as it should be at the spot of its root
    root-begins : (xs : List (K × V)) (r : IsRooted (IsSized root) (views content) root xs) → Ascends cmp xs → length xs < 2 ^ 64 → (t : HasSubtree (K × V) (views content) root xs r.height)
        → (spot : Spot K) → spot.level ≡ 0 → spot.id ≡ root → spot.parent ≡ None → option_copied spot.min ≡ None → option_copied spot.max ≡ None → BeginsAt content cmp None spot r.height t.subtree
    root-begins xs r up few t spot level id parent min max = record {
      here = t.at_root ∙ sym id;
      low = let h = height-low (K × V) (views content) root xs r few in omega arith;
      suits = rw (parent, min, max) (record {
        holds = t.holds;
        sized = (t.sized, t.below);
        ascends = subst (Ascends cmp) (sym t.represents) up;
        between = record { above = tt; below = tt };
      });
    }

    pub all-comes : (nodes : ℕ) → nodes ≡ finite.len content → (met : Met) → met.leaf_level ≡ None → met.items ≡ Some len → met.nodes ≡ Some nodes
        → (spot : Spot K) → spot.level ≡ 0 → spot.id ≡ root → spot.parent ≡ None → option_copied spot.min ≡ None → option_copied spot.max ≡ None
        → (answer : Result Met Fault) → MeetsAt content cmp None spot met answer → MeetsTree content cmp (Some root) len answer
    all-comes nodes count met leaves items left spot level id parent min max answer meets w =
        let t = rooted-subtree (K × V) (views content) root _ w.formed in
        let few : length (items_under (K × V) w.formed.height t.subtree) ≡ len = ap length t.represents ∙ sym w.counted in
        let begins = root-begins _ w.formed w.ascends (rw (← w.counted) low) t spot level id parent min max in
        let can : CanMeet (spot.level + w.formed.height) met = rw leaves tt in
        let m = meets w.formed.height t.subtree begins can in
        let same : finite.len content ≡ length (numbers_under (views content) w.formed.height root) = len-views content (numbers_under (views content) w.formed.height root) w.formed.once in
        let here : length (numbers_under (views content) w.formed.height root) ≡ length (numbers_under (views content) w.formed.height (id_of (K × V) w.formed.height t.subtree)) = ap (λ i. length (numbers_under (views content) w.formed.height i)) (sym t.at_root) in
        let all_items : len ≡ length (items_under (K × V) w.formed.height t.subtree) + 0 = omega arith in
        let all_nodes : nodes ≡ length (numbers_under (views content) w.formed.height (id_of (K × V) w.formed.height t.subtree)) + 0 = omega arith in
        (m.0, m.1, m.2.items 0 (items ∙ ap Some all_items), m.2.nodes 0 (left ∙ ap Some all_nodes))

-- a node of a well formed tree, as the root of its part
record IsPartAt {K V : Type 0} (content : Content (Node K V)) (cmp : K → K → Ordering) (id : ℕ) (parent : Option ℕ) (min max : Option K) : Type 0 where
  height : ℕ
  part : Subtree (K × V) height
  here : id_of (K × V) height part ≡ id
  low : height < 32
  depth : levels_below (views content) (finite.len content) id ≡ height
  list : represented (views content) (finite.len content) id ≡ items_under (K × V) height part
  suits : Suits None cmp min max (views content) parent height part

module _ {K V : Type 0} (cmp : K → K → Ordering) (tree : TreeState K V) (id : ℕ) (parent : Option ℕ) (min max : Option K) where
  least-counted : (count low : ℕ) → 1 ≤ low → low ≤ count → (IsFalse (is_judged_as_root min max) → 3 ≤ count) → least_between min max ≤ count
  least-counted count low one some f = by min max f where
    by : (min max : Option K) → (IsFalse (is_judged_as_root min max) → 3 ≤ count) → least_between min max ≤ count
    by None None f = omega arith
    by None (Some k) f = f refl
    by (Some k) max f = f refl

  part-at : (root : Option ℕ) → tree.len < 2 ^ 64 → IsWellFormed cmp (node_map tree) root tree.len (pairs_under (node_map tree) root (finite.len tree.nodes)) → SuitsNode cmp tree id parent min max
      → IsPartAt tree.nodes cmp id parent min max
  part-at None low w s = let none : None ≡ Some s.node = sym (w.formed.0 id) ∙ s.at in absurd (cc)
  part-at (Some root) low w s =
      let used = used-there (node_map tree) id s.node s.at in
      let n = node-at (K × V) (node_map tree) root _ w.formed id used in
      at n.focus.height n.focus.path n.focus.subtree n.focus.here n.focus.whole n.sized
    where
      at : (h : ℕ) (c : Path (K × V) h) (t : Subtree (K × V) h) → id_of (K × V) h t ≡ id → IsFocus (K × V) (node_map tree) [] root (represented (node_map tree) (finite.len tree.nodes) root) h c t → IsFilled (least_at c) h (count_at (K × V) h t)
          → IsPartAt tree.nodes cmp id parent min max
      at h c t here whole sized =
          let top : node_map tree id ≡ Some (view_at (K × V) h (parent_above c) t) = subst (λ i. node_map tree i ≡ Some (view_at (K × V) h (parent_above c) t)) here (top-view (K × V) (node_map tree) h (parent_above c) t whole.inner) in
          let own : s.node ≡ view_at (K × V) h (parent_above c) t = (let is : Some s.node ≡ Some (view_at (K × V) h (parent_above c) t) = sym s.at ∙ top in cc) in
          let up : parent_above c ≡ parent = sym (view-parent (K × V) h (parent_above c) t) ∙ (ap parent_of (sym own) ∙ s.parent_is) in
          let size : size_of s.node ≡ count_at (K × V) h t = ap size_of own ∙ view-size (K × V) h (parent_above c) t in
          let levels = levels-rooted (K × V) (node_map tree) root _ _ w.formed h c t (focus-unsized (K × V) (node_map tree) [] root _ h c t whole) in
          let held = height_held tree _ root _ w.formed in
          let few = height-low (K × V) (node_map tree) root _ w.formed (rw (← w.counted) low) in
          let depth = levels-is (K × V) (node_map tree) h (finite.len tree.nodes) (parent_above c) t (omega arith) whole.inner in
          let list : represented (node_map tree) (finite.len tree.nodes) id ≡ items_under (K × V) h t =
          subst (λ i. represented (node_map tree) (finite.len tree.nodes) i ≡ items_under (K × V) h t) here
          (represented-is (node_map tree) h (finite.len tree.nodes) (parent_above c) (id_of (K × V) h t) (items_under (K × V) h t) (omega arith) (represents-of (K × V) (node_map tree) h (parent_above c) t whole.inner)) in
          let rise = rises cmp _ w.ascends in
          let rise_here = rises-left cmp (items_under (K × V) h t) (items_after c) (rises-right cmp (items_before c) (items_under (K × V) h t ++ items_after c) (subst (Rises cmp) whole.list rise)) in
          record {
            height = h;
            part = t;
            here = here;
            low = omega arith;
            depth = subst (λ i. levels_below (node_map tree) (finite.len tree.nodes) i ≡ h) here depth;
            list = list;
            suits = record {
              holds = subst (λ p. Holds (K × V) (node_map tree) h p t) up whole.inner;
              sized = ((least-counted (count_at (K × V) h t) (least_at c) (low-enough (K × V) h c) sized.0 (λ no. let f = s.filled no in omega arith), sized.1), whole.below);
              ascends = ascends cmp (items_under (K × V) h t) rise_here;
              between = subst (AreBetween cmp min max) list s.between;
            };
          }

  module _ (content : Content (Node K V)) (same : tree.nodes ≡ content) (low : tree.len < 2 ^ 64) (w : IsBTree cmp tree) (s : SuitsNode cmp tree id parent min max)
      (met : Met) (leaves : met.leaf_level ≡ None) (spot : Spot K) (level : spot.level ≡ 0) (is : spot.id ≡ id) (up : spot.parent ≡ parent) (near : option_copied spot.min ≡ min) (far : option_copied spot.max ≡ max)
      (answer : Result Met Fault) (meets : MeetsAt content cmp None spot met answer) where
    -- the walk from the node finds its leaves at its depth
    pub node-met : (after : Met) × (answer ≡ Ok after) × (after.leaf_level ≡ Some (depth_below tree id))
    node-met =
        let p = part-at tree.root low w s in
        let found = subst (λ nodes. MeetsAt nodes cmp None spot met answer) (sym same) meets in
        let m = found p.height p.part (record { here = p.here ∙ sym is; low = let l = p.low in omega arith; suits = rw (up, near, far) p.suits }) (rw leaves tt) in
        let deep : spot.level + p.height ≡ depth_below tree id = (let d = p.depth in omega arith) in
        (m.0, m.1, m.2.leaves ∙ ap Some deep)

module _ {K V : Type 0} (cmp : K → K → Ordering) (tree : TreeState K V) (id : ℕ) (parent : Option ℕ) (min max : Option K)
    (content : Content (Node K V)) (same : tree.nodes ≡ content) (low : tree.len < 2 ^ 64) (w : IsBTree cmp tree)
    (met : Met) (leaves : met.leaf_level ≡ None) (spot : Spot K) (level : spot.level ≡ 0) (is : spot.id ≡ id) (up : spot.parent ≡ parent) (near : option_copied spot.min ≡ min) (far : option_copied spot.max ≡ max) where
  -- a fault under a node is one of the arguments
  pub node-blamed : (fault : Fault) → BlamesAt content cmp spot met (Err fault) → (node : View (K × V)) → node_map tree id ≡ Some node
      → Allows cmp (parent_of node) (size_of node) (represented (node_map tree) (finite.len tree.nodes) id) parent min max fault → ⊥
  node-blamed fault blames node at a =
      let p = part-at cmp tree id (parent_of node) None None tree.root low w (record { node = node; at = at; parent_is = refl; filled = λ no. absurd (cc); between = record { above = tt; below = tt } }) in
      let found = subst (λ nodes. BlamesAt nodes cmp spot met (Err fault)) (sym same) blames in
      let no = found (parent_of node) p.height p.part (record { here = p.here ∙ sym is; low = let l = p.low in omega arith; suits = p.suits }) (rw leaves tt) in
      let top : node_map tree id ≡ Some (view_at (K × V) p.height (parent_of node) p.part) = subst (λ i. node_map tree i ≡ Some (view_at (K × V) p.height (parent_of node) p.part)) p.here (top-view (K × V) (node_map tree) p.height (parent_of node) p.part p.suits.holds) in
      let own : node ≡ view_at (K × V) p.height (parent_of node) p.part = (let e : Some node ≡ Some (view_at (K × V) p.height (parent_of node) p.part) = sym at ∙ top in cc) in
      let size : size_of node ≡ count_at (K × V) p.height p.part = ap size_of own ∙ view-size (K × V) p.height (parent_of node) p.part in
      no (rw (← size, ← p.list, up, near, far) a)
