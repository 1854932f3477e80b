-- A walk that takes the pairs of a tree out at both ends: what contracts see of it, and what is so of its nodes.
use Rattle.std.specs.Iterator.{YieldsFirst, YieldsLast}
use Rattle.std.specs.Prelude.{◌≡◌, ℕ, zero, suc, ◌+◌, ◌-◌, OnSome, IfNone, ◌<◌, ◌≤◌, List, length, take, drop, Option, Some, None, refl}
use Rattle.std.specs.Coded.{Coded, code_by, coded×, coded_ℕ}
use Rattle.std.specs.FinMap as map
use Rattle.btree_item.specs.declared.TheConstants.{MAX_LEVELS}
use Rattle.btree_view.specs.View.{NodeMap}
use Rattle.btree_laws.specs.Focus.Focus.{IsTree}
use Rattle.btree_laws.specs.Focus.Subtree.{Subtree, items_under}
use Rattle.btree_laws.specs.TreeState.{TreeState, node_map, pairs_of}
use Rattle.btree_owned_walk.specs.NodesLeft.{met, nodes_under}
use Rattle.btree_owned_walk.specs.Rest.{AtFirst, AtLast, IsRest}

-- the tree at the start, how many pairs were taken at the front, how many are left, and the nodes that are held
pub record Leaving (K V : Type 0) : Type 0 where
  pub start : TreeState K V
  pub passed : ℕ
  pub left : ℕ
  pub now : TreeState K V

abbrev pub leaving_code : {K V : Type 0} → Coded (TreeState K V) → Coded (Leaving K V)
leaving_code {K} {V} code =
    code_by
    (TreeState K V × (ℕ × (ℕ × TreeState K V)))
    (coded× code (coded× coded_ℕ (coded× coded_ℕ code)))
    (λ s. (s.start, (s.passed, (s.left, s.now))))
    (λ p. record { start = p.0; passed = p.1.0; left = p.1.1.0; now = p.1.1.1 })
    (λ _. refl)

module _ {K V : Type 0} where
  -- how many nodes of a tree have an item left, if those from one place on and before another are left
  abbrev pub nodes_of : TreeState K V → Option ℕ → (from to : ℕ) → ℕ
  nodes_of s None from to = 0
  nodes_of s (Some root) from to = nodes_under (K × V) from to (node_map s) (map.len s.nodes) 0 root

  -- the pairs that are left
  abbrev pub left_of : Leaving K V → List (K × V)
  left_of s = take s.left (drop s.passed (pairs_of s.start))

  -- how many nodes of the tree at the start have a pair left under them
  abbrev pub nodes_left : Leaving K V → ℕ
  nodes_left s = nodes_of s.start s.start.root s.passed (s.passed + s.left)

-- the nodes that are held are those of a tree of the pairs that are left, and no other
pub record HoldsRest {K V : Type 0} (s : Leaving K V) : Type 0 where
  pub height : ℕ
  pub t : Subtree (K × V) height
  pub rest : IsRest (K × V) (node_map s.now) height t
  pub list : items_under (K × V) height t ≡ left_of s

-- the same, or no node is held if no pair is left
abbrev pub HoldsLeft : {K V : Type 0} → Leaving K V → Type 0
HoldsLeft s = (s.left ≡ 0 → (n : ℕ) → node_map s.now n ≡ None) × (0 < s.left → HoldsRest s)

-- a walk over a tree as it is, of which no pair is taken yet
pub record BeginsAt {K V : Type 0} (tree : TreeState K V) (s : Leaving K V) : Type 0 where
  pub start : s.start ≡ tree
  pub passed : s.passed ≡ 0
  pub list : left_of s ≡ pairs_of tree

-- what a step at the front does: to the pairs that are left, and to what `nodes_left` reads; without a pair it does nothing
pub record TakesAtFront {K V : Type 0} (s : Leaving K V) (result : Option (K × V)) (t : Leaving K V) : Type 0 where
  pub yields : YieldsFirst left_of s result t
  pub start : t.start ≡ s.start
  pub passed : OnSome result (t.passed ≡ s.passed + 1)
  pub left : t.left ≡ s.left - 1
  pub none : IfNone result (t ≡ s)

-- the same at the back, where no pair of the front is passed
pub record TakesAtBack {K V : Type 0} (s : Leaving K V) (result : Option (K × V)) (t : Leaving K V) : Type 0 where
  pub yields : YieldsLast left_of s result t
  pub start : t.start ≡ s.start
  pub passed : t.passed ≡ s.passed
  pub left : t.left ≡ s.left - 1
  pub none : IfNone result (t ≡ s)

-- as many nodes of the start have an item at some of the places that are left as nodes of what is left
pub record CountsOf (A : Type 0) (g : ℕ) (start : Subtree A g) (h : ℕ) (t : Subtree A h) (passed : ℕ) : Type 0 where
  pub same : (from to : ℕ) → passed ≤ from → to ≤ passed + length (items_under A h t) → met A from to g 0 start ≡ met A from to h passed t

-- the nodes are what is left of the tree at the start, of which an item is left, under node `front` and node `back`
pub record Remains {K V : Type 0} (start : TreeState K V) (now : NodeMap (K × V)) (passed left front back : ℕ) : Type 0 where
  pub root : ℕ
  pub at_root : start.root ≡ Some root
  pub tree : IsTree (K × V) (node_map start) root (pairs_of start)
  pub deep : tree.height < map.len start.nodes
  pub height : ℕ
  pub t : Subtree (K × V) height
  pub rest : IsRest (K × V) now height t
  pub low : height < MAX_LEVELS
  pub list : items_under (K × V) height t ≡ take left (drop passed (pairs_of start))
  pub within : passed + left ≤ length (pairs_of start)
  pub first : AtFirst (K × V) front height t
  pub last : AtLast (K × V) back height t
  pub counts : CountsOf (K × V) tree.height tree.subtree height t passed

-- the same, or no node is left
abbrev pub IsLeaving : {K V : Type 0} → TreeState K V → NodeMap (K × V) → (passed left front back : ℕ) → Type 0
IsLeaving start now passed zero front back = (n : ℕ) → now n ≡ None
IsLeaving start now passed (suc left) front back = Remains start now passed (suc left) front back
