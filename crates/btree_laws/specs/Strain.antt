-- Strain, a potential: how near the nodes of a tree are to a split or a merge. It bounds the nodes that later steps
-- allocate or free.
-- The strain of a leaf of k items is k - 7 and that of an internal node k - 5, if above 0; a node other than the root
-- has 4 - k more, if above 0. The strain of a tree (`IsStrain`) is the sum over its nodes.
-- In an insertion and its splits, the nodes allocated and the strain afterwards are together at most the strain before,
-- plus one for the item that is inserted (`repaired-within` in `proofs/Splits/Insertion.antt`). In rotations, merges
-- and a shrunk root, the nodes freed and the strain afterwards are together at most the strain before, plus one for a
-- root without items (`AdjacentSteps` in `proofs/Underflow/Adjacent.antt`, `to-child` and `to-nothing` in
-- `proofs/Underflow/Upward.antt`).
use Rattle.std.specs.Prelude.{◌≡◌, ℕ, ◌+◌, ◌-◌, ◌==◌, if◌then◌else◌, List, length, Option, Some, None}
use Rattle.btree_item.specs.declared.TheConstants.{MAX_INTERNAL_ITEMS, MAX_LEAF_ITEMS, MIN_ITEMS}
use Rattle.btree_view.specs.View.{View, leaf, internal, NodeMap, size_of}
use Rattle.btree_laws.specs.Lists.{times_listed, total}
use Rattle.btree_laws.specs.WellFormed.{times_used}

-- the most items of a leaf that is not strained: it still has room for one
abbrev pub UNSTRAINED_LEAF_ITEMS : ℕ
UNSTRAINED_LEAF_ITEMS = MAX_LEAF_ITEMS - 1

-- the most items of an internal node that is not strained: it still has room for two
abbrev pub UNSTRAINED_INTERNAL_ITEMS : ℕ
UNSTRAINED_INTERNAL_ITEMS = MAX_INTERNAL_ITEMS - 2

-- the fewest items of a node other than the root that is not strained: it can lose one
abbrev pub UNSTRAINED_MIN_ITEMS : ℕ
UNSTRAINED_MIN_ITEMS = MIN_ITEMS + 1

-- how many items a node has above the most of a node that is not strained
abbrev pub surplus_of : {A : Type 0} → View A → ℕ
surplus_of (leaf parent items) = length items - UNSTRAINED_LEAF_ITEMS
surplus_of (internal parent first branches) = length branches - UNSTRAINED_INTERNAL_ITEMS

-- the strain of a node: its surplus, and, if it is not the root, by how many items it has fewer than
-- `UNSTRAINED_MIN_ITEMS`
abbrev pub strain_in : {A : Type 0} → (root id : ℕ) → Option (View A) → ℕ
strain_in root id None = 0
strain_in root id (Some node) = surplus_of node + (if id == root then 0 else UNSTRAINED_MIN_ITEMS - size_of node)

-- the strain of the nodes with these numbers
abbrev pub strain_under : {A : Type 0} → NodeMap A → (root : ℕ) → List ℕ → ℕ
strain_under node_at root ids = total (λ id. strain_in root id (node_at id)) ids

-- the strain of the tree with this root: that of its nodes, each listed once; without a root it is 0
abbrev pub IsStrain : {A : Type 0} → NodeMap A → Option ℕ → ℕ → Type 0
IsStrain node_at None strain = strain ≡ 0
IsStrain node_at (Some root) strain = (ids : List ℕ) × ((n : ℕ) → times_listed n ids ≡ times_used (node_at n)) × (strain ≡ strain_under node_at root ids)

-- the debt of a fix at a node: 1 for a root without items, which is still to be freed, else 0; no node but the root can
-- be without items
abbrev pub debt_of : {A : Type 0} → View A → ℕ
debt_of node = if size_of node == 0 then 1 else 0
