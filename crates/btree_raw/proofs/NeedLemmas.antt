-- The count of the nodes that an insertion needs, step by step.
use Rattle.btree_raw.proofs.Common.{◌≡◌, ◌↔◌, IsTrue, true, false, ℕ, zero, suc, ◌+◌, ◌<◌, ◌≤◌, ◌^◌, inl, inr, List, [], ◌∷◌, Option, Some, None, length, length-append, refl, sym, ap, subst, ◌∙◌, option_map, arith, Ordering, Node, view_of, NodeMap, most_of, parent_of, size_of, IsCountingUpward, need, split_need, count_at, most_at, TreeState, IsUsed, node_map, nodes_for_splits, pairs_of, times_used, height_held, less-no, IsCountingSplits, less-or}
use Rattle.std.proofs.Math.Nat.{pow-le-pow_right}
use Rattle.std.specs.FinMap as map
use Rattle.btree_laws.specs.Focus.Need.{path_need_from, path_need}
use Rattle.btree_laws.specs.Need.{need_of_split, split_need_in}
use Rattle.btree_laws.specs.Focus.Node.{IsNode}
use Rattle.btree_laws.specs.Focus.Subtree.{IsFilled, IsFilledBelow, Subtree, items_under, later_items}
use Rattle.btree_laws.specs.TreeState.{IsBTree, nodes_needed}
use Rattle.btree_laws.specs.Focus.Path.{Path, depth, fill, frame_count, least_at, top, under}
use Rattle.btree_laws.specs.WellFormed.{IsFormed, IsRooted, IsSized}
use Rattle.btree_laws.specs.Focus.Focus.{IsFocus}
use Rattle.btree_laws.proofs.Trees.Density.{dense}
use Rattle.btree_laws.proofs.Paths.Frames.{fill-count}
use Rattle.btree_laws.proofs.Paths.Levels.{levels-rooted}
use Rattle.btree_laws.proofs.Paths.Used.{less-yes}
use Rattle.btree_laws.proofs.Splits.Need.{split_need-node, upward-start}
use Rattle.btree_laws.proofs.Paths.UnsizedFocus.{focus-unsized}
use Rattle.btree_laws.proofs.Paths.FromRoot.{node-at}
use Rattle.btree_laws.proofs.Trees.Stores.{some-used}
use Rattle.btree_laws.proofs.Paths.Focus.{close}

-- the test whether a node is full
pub is-full : {K V : Type 0} (node : Node K V) → (IsTrue true ↔ (most_of (view_of node) ≤ size_of (view_of node))) → most_of (view_of node) ≤ size_of (view_of node)
is-full node e = e.0 refl

pub not-full : {K V : Type 0} (node : Node K V) → (IsTrue false ↔ (most_of (view_of node) ≤ size_of (view_of node))) → size_of (view_of node) < most_of (view_of node)
not-full node e = elim (less-or (size_of (view_of node)) (most_of (view_of node))) [
  | inl low ↦ low
  | inr other ↦ let full : most_of (view_of node) ≤ size_of (view_of node) = elim other [ inl same ↦ omega arith | inr more ↦ omega arith ] in let q : false ≡ true = e.1 full in absurd (cc)
]

-- no split begins at a node that is not full
pub room-no_split : {K V : Type 0} (s : TreeState K V) (id : ℕ) (node : Node K V) → Some node ≡ map.get s.nodes id
    → size_of (view_of node) < most_of (view_of node) → nodes_for_splits s id ≡ 0
room-no_split {K} {V} s id node at low = by (map.len s.nodes)
  where
    here : node_map s id ≡ Some (view_of node)
    here = ap (option_map view_of) (sym at)

    by : (most : ℕ) → split_need (node_map s) most id ≡ 0
    by zero = refl
    by (suc most) =
        ap (split_need_in (split_need (node_map s) most)) here
        ∙ less-yes (size_of (view_of node)) (most_of (view_of node)) 0 (need_of_split (split_need (node_map s) most) (parent_of (view_of node))) low

module _ (A : Type 0) where
  -- a tree whose length fits in a `usize` has at most 32 levels
  levels-few : (h : ℕ) (t : Subtree A h) → 1 ≤ count_at A h t → IsFilledBelow A h t → length (items_under A h t) < 2 ^ 64 → h ≤ 31
  levels-few zero t some filled low = omega arith
  levels-few (suc h) (id, first, []) some filled low = absurd (omega arith)
  levels-few (suc h) (id, first, b ∷ bs) some filled low =
      let d = dense A h first filled.0.0 filled.1 in
      let l = length-append (items_under A h first) (later_items A h (b ∷ bs)) in
      let m = length-append (items_under A h b.1) (later_items A h bs) in
      elim (less-or h 31) [
        | inl less ↦ omega arith
        | inr other ↦
            let at_least : 32 ≤ suc h = elim other [ inl same ↦ omega arith | inr more ↦ omega arith ] in
            let p : 4 ^ 32 ≤ 4 ^ suc h = pow-le-pow_right (omega arith) at_least in
            absurd (omega arith)
      ]

  levels-above-few : (node_at : NodeMap A) (root : ℕ) (xs : List A) (h : ℕ) (c : Path A h) (t : Subtree A h) → IsFocus A node_at [] root xs h c t
      → IsFilled (least_at c) h (count_at A h t) → length xs < 2 ^ 64 → depth c + h ≤ 31
  levels-above-few node_at root xs h top t w z low =
      let l = ap length w.list in
      let n = length-append (items_under A h t) [] in
      let d : depth {A = A} {height = h} top ≡ 0 = refl in
      let f = levels-few h t z.0 w.below (omega arith) in
      omega arith
  levels-above-few node_at root xs h (under f c) t w z low =
      let r = levels-above-few node_at root xs (suc h) c (fill f t) (close A node_at [] root xs h f c t w z) (subst (λ n. IsFilled (least_at c) (suc h) n) (sym (fill-count A h f t)) w.filled.0) low in
      omega arith

  pub path_need-few : (h : ℕ) (c : Path A h) → path_need c ≤ depth c + 2
  path_need-few h top = omega arith
  path_need-few h (under f c) =
      let r = path_need-few (suc h) c in
      elim (less-or (frame_count f) 7) [
        | inl low ↦ let q = less-yes (frame_count f) 7 0 (path_need c) low in omega arith
        | inr other ↦
            let full : 7 ≤ frame_count f = elim other [ inl same ↦ omega arith | inr more ↦ omega arith ] in
            let q = less-no (frame_count f) 7 0 (path_need c) full in omega arith
      ]

  -- an insertion needs at most two nodes more than there are levels above
  pub path_need_from-few : (h : ℕ) (c : Path A h) (n : ℕ) → path_need_from c n ≤ depth c + 2
  path_need_from-few h c n = elim (less-or n (most_at h)) [
    | inl low ↦ let q = less-yes n (most_at h) 0 (path_need c) low in omega arith
    | inr other ↦
        let full : most_at h ≤ n = elim other [ inl same ↦ omega arith | inr more ↦ omega arith ] in
        let q = less-no n (most_at h) 0 (path_need c) full in omega (arith, path_need-few h c)
  ]

module _ {K V : Type 0} (cmp : K → K → Ordering) (s : TreeState K V) (start : ℕ) (sound : IsBTree cmp s) where
  abbrev sight : NodeMap (K × V)
  sight = node_map s

  abbrev listed : List (K × V)
  listed = pairs_of s

  module _ (used : IsUsed s start) where
    start-used : 0 < times_used (sight start)
    start-used = some-used (map.get s.nodes start) used

    root-is : (r : Option ℕ) → IsFormed sight r listed → (number : ℕ) × (r ≡ Some number)
    root-is None f = absurd (let e = f.0 start in let u = start-used in let z : times_used (sight start) ≡ 0 = ap times_used e in omega arith)
    root-is (Some number) f = (number, refl)

    rooted : (number : ℕ) → s.root ≡ Some number → IsRooted (IsSized number) sight number listed
    rooted number is = subst (λ r. IsFormed sight r listed) is sound.formed

    first : (number : ℕ) → s.root ≡ Some number → IsNode (K × V) sight number listed start
    first number is = node-at (K × V) sight number listed (rooted number is) start start-used

    -- where a node is used, the splits from it need as many nodes as an insertion
    pub need-split_need : nodes_for_splits s start ≡ nodes_needed s start
    need-split_need = let r = root-is s.root sound.formed in sym (ap (λ t. need sight t (map.len s.nodes) start) r.1)

  pub need-counting : s.len < 2 ^ 64 → (used : IsUsed s start) → IsCountingSplits sight (map.len s.nodes) start start 0
  need-counting low used =
      let r = root-is used s.root sound.formed in
      let n = first used r.0 r.1 in
      let up = rooted used r.0 r.1 in
      let w = focus-unsized (K × V) sight [] r.0 listed n.focus.height n.focus.path n.focus.subtree n.focus.whole in
      let levels = levels-rooted (K × V) sight r.0 listed (IsSized r.0) up n.focus.height n.focus.path n.focus.subtree w in
      let deep = height_held s (IsSized r.0) r.0 listed up in
      let a = split_need-node (K × V) sight r.0 listed start n (map.len s.nodes) (omega arith) in
      let b = path_need_from-few (K × V) n.focus.height n.focus.path (count_at (K × V) n.focus.height n.focus.subtree) in
      let k = sound.counted in
      let d = levels-above-few (K × V) sight r.0 listed n.focus.height n.focus.path n.focus.subtree n.focus.whole n.sized (omega arith) in
      let c = upward-start (K × V) sight r.0 listed (map.len s.nodes) n.focus.height n.focus.path n.focus.subtree w (omega arith) in
      record {
        tree = sight;
        alike = λ n. refl;
        root = r.0;
        xs = listed;
        upward = subst (λ i. IsCountingUpward (K × V) sight r.0 listed (map.len s.nodes) i 0 (split_need sight (map.len s.nodes) i)) n.focus.here c;
        few = omega arith;
      }
