-- Where no pair is left, no node is left: `none-left`.
use Rattle.std.proofs.Common.{◌≡◌, ◌≤◌, ℕ, zero, suc, ◌+◌, min, List, [], ◌∷◌, length, take, drop, Option, Some, None, refl, arith, length-append}
use Rattle.std.specs.List.{flat_map}
use Rattle.std.specs.FinMap as map
use Rattle.btree_view.specs.View.{View, leaf, internal, NodeMap}
use Rattle.btree_laws.specs.Represents.{represented, represented_in}
use Rattle.btree_laws.specs.TreeState.{TreeState, node_map, pairs_of, pairs_under}
use Rattle.btree_owned_walk.specs.NodesLeft.{nodes_in, nodes_later, nodes_under}
use Rattle.btree_owned_walk.specs.Leaving.{Leaving, left_of, nodes_left, nodes_of}

-- no node has an item left, if no place is left, or all places of the nodes are before those that are left
module _ (A : Type 0) (from to : ℕ) (node_at : NodeMap A) where
  later-none : (levels : ℕ)
      → ((start id : ℕ) → min to (start + length (represented node_at levels id)) ≤ from → nodes_under A from to node_at levels start id ≡ 0)
      → (start : ℕ) (bs : List (A × ℕ)) → min to (start + length (flat_map (λ (b : A × ℕ). b.0 ∷ represented node_at levels b.1) bs)) ≤ from
      → nodes_later A from to node_at levels (nodes_under A from to node_at levels) start bs ≡ 0
  later-none levels each start [] few = refl
  later-none levels each start (b ∷ bs) few =
      let ys = represented node_at levels b.1 in
      let zs = flat_map (λ (b : A × ℕ). b.0 ∷ represented node_at levels b.1) bs in
      let size = length-append ys zs in
      let first = each (start + 1) b.1 (omega (arith, few, size)) in
      let others = later-none levels each (start + 1 + length ys) bs (omega (arith, few, size)) in
      omega (arith, first, others)

  none-under : (levels start id : ℕ) → min to (start + length (represented node_at levels id)) ≤ from → nodes_under A from to node_at levels start id ≡ 0
  none-under zero start id few = refl
  none-under (suc levels) start id few = of (none-under levels) (node_at id) few
    where
      of : ((start id : ℕ) → min to (start + length (represented node_at levels id)) ≤ from → nodes_under A from to node_at levels start id ≡ 0)
          → (node : Option (View A)) → min to (start + length (represented_in (represented node_at levels) node)) ≤ from
          → nodes_in A from to node_at levels (nodes_under A from to node_at levels) start node ≡ 0
      of each None few = refl
      of each (Some (leaf parent items)) few = omega (arith, few)
      of each (Some (internal parent first branches)) few =
          let ys = represented node_at levels first in
          let zs = flat_map (λ (b : A × ℕ). b.0 ∷ represented node_at levels b.1) branches in
          let size = length-append ys zs in
          let below = each start first (omega (arith, few, size)) in
          let later = later-none levels each (start + length ys) branches (omega (arith, few, size)) in
          omega (arith, few, below, later)

-- no place is left, or those that are left are past the end
ends : {X : Type 0} (left passed : ℕ) (xs : List X) → take left (drop passed xs) ≡ [] → min (passed + left) (length xs) ≤ passed
ends zero passed xs e = omega arith
ends (suc left) zero [] e = omega arith
ends (suc left) zero (x ∷ xs) e = absurd (cc)
ends (suc left) (suc passed) [] e = omega arith
ends (suc left) (suc passed) (x ∷ xs) e = let r = ends (suc left) passed xs e in omega (arith, r)

module _ {K V : Type 0} where
  pub none-of : (s : TreeState K V) (from to : ℕ) → min to (length (pairs_of s)) ≤ from → nodes_of s s.root from to ≡ 0
  none-of s from to few = of s.root few
    where
      of : (root : Option ℕ) → min to (length (pairs_under (node_map s) root (map.len s.nodes))) ≤ from → nodes_of s root from to ≡ 0
      of None few = refl
      of (Some root) few = none-under (K × V) from to (node_map s) (map.len s.nodes) 0 root (omega (arith, few))

  pub none-left : (s : Leaving K V) → left_of s ≡ [] → nodes_left s ≡ 0
  none-left s none = none-of s.start s.passed (s.passed + s.left) (ends s.left s.passed (pairs_of s.start) none)
