-- How many nodes an insertion needs, against the number of levels.
use Rattle.btree_ext.proofs.Common.{◌<◌, ◌≤◌, ◌+◌, ℕ, inl, inr, List, [], Option, Some, None, arith, Ordering, Address, View, NodeMap, leaf, internal, need, IsLeaf, TreeState, IsBTree, IsLeafAddressIn, node_map, nodes_needed, pairs_of, IsSized, IsWellFormed, times_used, height_held}
use Rattle.std.specs.FinMap as map
use Rattle.btree_laws.specs.Place.{IsLeafAddress}
use Rattle.btree_laws.specs.Focus.Subtree.{count_at}
use Rattle.btree_laws.specs.TreeState.{HasLevels, HasLevelsUnder}
use Rattle.btree_laws.proofs.Splits.Need.{split_need-node}
use Rattle.btree_laws.proofs.Paths.Levels.{levels-rooted}
use Rattle.btree_laws.proofs.Underflow.Order.{one-height}
use Rattle.btree_laws.proofs.Paths.FromRoot.{node-at}
use Rattle.btree_laws.proofs.Paths.UnsizedFocus.{focus-unsized}
use Rattle.btree_raw.proofs.NeedLemmas.{path_need_from-few}

pub leaf-used : {A : Type 0} (node_at : NodeMap A) (o : Option (View A)) → IsLeaf node_at o → 0 < times_used o
leaf-used node_at None is = absurd is
leaf-used node_at (Some (leaf p ys)) is = omega arith
leaf-used node_at (Some (internal p first bs)) is = absurd is

module _ {K V : Type 0} (cmp : K → K → Ordering) (s : TreeState K V) where
  levels-under : (top : Option ℕ) → IsWellFormed cmp (node_map s) top s.len (pairs_of s) → (id : ℕ) (offset : Option ℕ) → IsLeafAddress (node_map s) top id offset
      → (levels : ℕ) → HasLevelsUnder s top levels → need (node_map s) top (map.len s.nodes) id ≤ levels + 1
  levels-under None w id offset at levels are = omega arith
  levels-under (Some root) w id offset at levels are = elim at [
    | inl in_leaf ↦
        let node_at : NodeMap (K × V) = node_map s in
        let xs : List (K × V) = pairs_of s in
        let n = node-at (K × V) node_at root xs w.formed id (leaf-used node_at (node_at id) in_leaf) in
        let t = focus-unsized (K × V) node_at [] root xs n.focus.height n.focus.path n.focus.subtree n.focus.whole in
        let d = levels-rooted (K × V) node_at root xs (IsSized root) w.formed n.focus.height n.focus.path n.focus.subtree t in
        let e = one-height node_at root xs w.formed.height are.0 w.formed.represents are.1 in
        let f = path_need_from-few (K × V) n.focus.height n.focus.path (count_at (K × V) n.focus.height n.focus.subtree) in
        let h = height_held s (IsSized root) root xs w.formed in
        let k = split_need-node (K × V) node_at root xs id n (map.len s.nodes) (omega arith) in
        let l = are.2 in
        omega arith
    | inr nowhere ↦ let none = nowhere.0 in absurd (cc)
  ]

  -- at most one more than there are levels
  pub need-levels : IsBTree cmp s → (a : Address) → IsLeafAddressIn s a → (levels : ℕ) → HasLevels s levels → nodes_needed s a.id ≤ levels + 1
  need-levels tree a at levels are = levels-under s.root tree a.id a.offset at levels are
