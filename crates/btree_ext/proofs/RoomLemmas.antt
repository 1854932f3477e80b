-- The nodes that a tree has and those that an insertion at a leaf needs are together at most a third of the pairs that
-- there are then, rounded up; so a store of enough places refuses none of them.
use Rattle.btree_ext.proofs.Common.{◌≡◌, ◌≤◌, ◌+◌, ℕ, inl, inr, List, [], Option, Some, None, refl, arith, Ordering, Address, need, TreeState, IsBTree, IsLeafAddressIn, node_map, nodes_needed, pairs_of, IsSized, IsWellFormed, height_held, len-views}
use Rattle.std.proofs.Common.{◌*◌}
use Rattle.std.specs.FinMap as map
use Rattle.btree_laws.specs.Place.{IsLeafAddress}
use Rattle.btree_laws.proofs.Paths.FromRoot.{node-at}
use Rattle.btree_laws.proofs.Paths.Levels.{levels-rooted}
use Rattle.btree_laws.proofs.Paths.UnsizedFocus.{focus-unsized}
use Rattle.btree_laws.proofs.Splits.Room.{need-room}
use Rattle.btree_ext.proofs.LevelLemmas.{leaf-used}

module _ {K V : Type 0} (cmp : K → K → Ordering) (s : TreeState K V) where
  room-under : (top : Option ℕ) → IsWellFormed cmp (node_map s) top s.len (pairs_of s) → (id : ℕ) (offset : Option ℕ) → IsLeafAddress (node_map s) top id offset
      → 3 * (map.len s.nodes + need (node_map s) top (map.len s.nodes) id) ≤ s.len + 3
  room-under None w id offset at =
      let n : map.len s.nodes ≡ 0 = len-views s.nodes [] (λ n. rw (w.formed.0 n) refl) in
      omega arith
  room-under (Some root) w id offset at = elim at [
    | inl in_leaf ↦
        let xs : List (K × V) = pairs_of s in
        let n = node-at (K × V) (node_map s) root xs w.formed id (leaf-used (node_map s) (node_map s id) in_leaf) in
        let t = focus-unsized (K × V) (node_map s) [] root xs n.focus.height n.focus.path n.focus.subtree n.focus.whole in
        let d = levels-rooted (K × V) (node_map s) root xs (IsSized root) w.formed n.focus.height n.focus.path n.focus.subtree t in
        let h = height_held s (IsSized root) root xs w.formed in
        let k = need-room (K × V) (node_map s) root xs (map.len s.nodes) (len-views s.nodes) id n (map.len s.nodes) (omega arith) in
        let c = w.counted in
        omega arith
    | inr nowhere ↦ let none = nowhere.0 in absurd (cc)
  ]

  -- three times the nodes and those that an insertion needs are at most the length and three
  pub room-needed : IsBTree cmp s → (a : Address) → IsLeafAddressIn s a → 3 * (map.len s.nodes + nodes_needed s a.id) ≤ s.len + 3
  room-needed tree a at = room-under s.root tree a.id a.offset at
