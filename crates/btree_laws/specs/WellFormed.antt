-- When a map of nodes is a B-tree.
-- A leaf has 3 to 8 items and an internal node 3 to 7; the root has at least 1, and at most as many as its kind. The
-- numbers under the root are exactly those in use, so a store holds nothing but the nodes of the tree. `IsOffByOne` is
-- the state in which rebalancing begins; it leaves the length open, since a caller sets that apart from the nodes.
use Rattle.std.specs.Prelude.{◌-◌, ◌≡◌, ℕ, ◌+◌, ◌<◌, ◌≤◌, ◌==◌, if◌then◌else◌, List, [], length, Option, Some, None, IsSome}
use Rattle.std.specs.declared.cmp.Ordering.{Ordering}
use Rattle.btree_item.specs.declared.TheConstants.{MAX_LEVELS, MIN_ITEMS}
use Rattle.btree_item.specs.Pairs.{Ascends}
use Rattle.btree_laws.specs.Lists.{times_listed}
use Rattle.btree_view.specs.View.{View, NodeMap, size_of, most_of}
use Rattle.btree_laws.specs.Represents.{Represents, numbers_under}

-- how often a store has a number: once if it is used
abbrev pub times_used : {X : Type 0} → Option X → ℕ
times_used None = 0
times_used (Some x) = 1

-- the fewest items of a node: one in the root, three in any other
abbrev pub least_of : (root id : ℕ) → ℕ
least_of root id = if id == root then 1 else MIN_ITEMS

-- a node of a well formed tree has enough items and not too many
abbrev pub IsSized : {A : Type 0} → (root id : ℕ) → View A → Type 0
IsSized root id node = (least_of root id ≤ size_of node) × (size_of node ≤ most_of node)

-- the fewest items of a node if node `exempt` may have one too few, and none if it is the root
abbrev pub least_allowed : (root exempt id : ℕ) → ℕ
least_allowed root exempt id = if id == exempt then (if exempt == root then 0 else MIN_ITEMS - 1) else least_of root id

-- how many items above the most a node may have: one for node `exempt`, none for another
abbrev pub excess_allowed : (exempt id : ℕ) → ℕ
excess_allowed exempt id = if id == exempt then 1 else 0

-- like `IsSized`, except that node `exempt` may have one item too many or one too few
abbrev pub IsNearlySized : {A : Type 0} → (root exempt id : ℕ) → View A → Type 0
IsNearlySized root exempt id node = (least_allowed root exempt id ≤ size_of node) × (size_of node ≤ most_of node + excess_allowed exempt id)

-- the nodes form one tree with this root, it represents the list, and each node's number of items is right
pub record IsRooted {A : Type 0} (is_right : (id : ℕ) → View A → Type 0) (node_at : NodeMap A) (root : ℕ) (xs : List A) : Type 0 where
  -- how many levels the root is above the leaves
  pub height : ℕ
  pub represents : Represents node_at height None root xs
  pub sized : (id : ℕ) (node : View A) → node_at id ≡ Some node → is_right id node
  -- the numbers under the root are those that are used, each once
  pub once : (n : ℕ) → times_listed n (numbers_under node_at height root) ≡ times_used (node_at n)

-- without a root there are no nodes
abbrev pub IsFormed : {A : Type 0} → NodeMap A → Option ℕ → List A → Type 0
IsFormed node_at None xs = ((n : ℕ) → node_at n ≡ None) × (xs ≡ [])
IsFormed node_at (Some root) xs = IsRooted (IsSized root) node_at root xs

-- a well formed tree with these pairs
pub record IsWellFormed {K V : Type 0} (cmp : K → K → Ordering) (node_at : NodeMap (K × V)) (root : Option ℕ) (len : ℕ) (xs : List (K × V)) : Type 0 where
  pub ascends : Ascends cmp xs
  pub formed : IsFormed node_at root xs
  pub counted : len ≡ length xs

-- a tree of at most 32 levels with these pairs, off by one at node `exempt`: well formed except for the number of items
-- there and the length
pub record IsOffByOne {K V : Type 0} (cmp : K → K → Ordering) (node_at : NodeMap (K × V)) (root exempt : ℕ) (xs : List (K × V)) : Type 0 where
  pub ascends : Ascends cmp xs
  pub rooted : IsRooted (IsNearlySized root exempt) node_at root xs
  pub low : rooted.height < MAX_LEVELS
  pub used : IsSome (node_at exempt)
