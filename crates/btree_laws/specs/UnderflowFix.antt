-- The order in which underflows are fixed: which step is taken at a node that underflows, and which node is next.
-- A node with enough items stays, and nothing changes. A node that underflows borrows an item from its right sibling,
-- else from its left one (`Borrows`), and the fix ends. If neither can spare one, it is merged (`MergesNode`), and the
-- parent is next. A root without items is freed. `proofs/Examples/SmallTrees.antt` checks this at small trees. The
-- contract of `rebalance` cites `IsUnderflowFixed`.
use Rattle.std.specs.Prelude.{◌≡◌, ◌≢◌, ℕ, suc, ◌<◌, ◌≤◌, [], slice_get, Option, Some, None, IfSome, option_map}
use Rattle.btree_item.specs.declared.TheConstants.{MIN_ITEMS}
use Rattle.btree_view.specs.View.{View, leaf, NodeMap, children_in, parent_of, size_of}
use Rattle.btree_laws.specs.SiblingSteps.{Merges, ShrinksRoot, RotatesLeft, RotatesRight}
use Rattle.btree_laws.specs.Step.{RemovesNode}
use Rattle.btree_laws.specs.WellFormed.{least_of}

-- how many items a node has, if there is one
abbrev pub size_in : {A : Type 0} → Option (View A) → ℕ
size_in None = 0
size_in (Some node) = size_of node

module _ {A : Type 0} (node_at : NodeMap A) where
  -- the child of `parent` at an index, if it has one there
  abbrev pub child_at : (parent index : ℕ) → Option ℕ
  child_at parent index = slice_get (children_in (node_at parent)) index

  -- the child at that index is `sibling`, and it has more than three items
  abbrev pub CanSpare : (parent index sibling : ℕ) → Type 0
  CanSpare parent index sibling = (child_at parent index ≡ Some sibling) × (MIN_ITEMS < size_in (node_at sibling))

  -- no child at that index has more than three items
  abbrev pub NoneSpares : (parent index : ℕ) → Type 0
  NoneSpares parent index = IfSome (child_at parent index) (λ sibling. size_in (node_at sibling) ≤ MIN_ITEMS)

  -- node `id` is not the root, has fewer than three items, and names this parent
  pub record UnderflowsUnder (root parent id : ℕ) : Type 0 where
    pub apart : id ≢ root
    pub few : size_in (node_at id) < MIN_ITEMS
    pub named : option_map parent_of (node_at id) ≡ Some (Some parent)

  module _ (new : NodeMap A) where
    -- node `id`, a child of `parent`, borrows an item: from its right sibling if that has more than three, else from
    -- its left one if that has more than three
    pub data Borrows (parent id : ℕ) : Type 0 where
      from_right : (index right : ℕ) → child_at parent index ≡ Some id → CanSpare parent (suc index) right
          → RotatesLeft node_at new parent index id right → Borrows parent id
      from_left : (index left : ℕ) → child_at parent (suc index) ≡ Some id → NoneSpares parent (suc (suc index))
          → CanSpare parent index left → RotatesRight node_at new parent index left id → Borrows parent id

    -- neither sibling has more than three: node `id` is merged with its left one, or, if it is the first child, with
    -- its right one
    pub data MergesNode (parent id : ℕ) : Type 0 where
      with_left : (index left : ℕ) → child_at parent (suc index) ≡ Some id → NoneSpares parent (suc (suc index))
          → child_at parent index ≡ Some left → NoneSpares parent index → Merges node_at new parent index left id
          → MergesNode parent id
      with_right : (right : ℕ) → child_at parent 0 ≡ Some id → child_at parent 1 ≡ Some right → NoneSpares parent 1
          → Merges node_at new parent 0 id right → MergesNode parent id

-- the nodes `node_at` with this root become `new` with the new root, from node `id` upward:
pub data UnderflowFix {A : Type 0} (root : ℕ) (new : NodeMap A) (new_root : Option ℕ) : (node_at : NodeMap A) → (id : ℕ) → Type 0 where
  -- a node with enough items stays, and nothing changes
  rests : (node_at : NodeMap A) (id : ℕ) → least_of root id ≤ size_in (node_at id) → ((n : ℕ) → new n ≡ node_at n)
      → new_root ≡ Some root → UnderflowFix root new new_root node_at id
  -- a node that underflows borrows an item from a sibling that has one to spare, and nothing else changes
  borrows : (node_at : NodeMap A) (id parent : ℕ) → UnderflowsUnder node_at root parent id → Borrows node_at new parent id
      → new_root ≡ Some root → UnderflowFix root new new_root node_at id
  -- otherwise it is merged with a sibling, and the parent is next
  merges : (node_at mid : NodeMap A) (id parent : ℕ) → UnderflowsUnder node_at root parent id → MergesNode node_at mid parent id
      → UnderflowFix root new new_root mid parent → UnderflowFix root new new_root node_at id
  -- an internal root without items is freed, and its only child becomes the root
  shrinks_root : (node_at : NodeMap A) (id child : ℕ) → id ≡ root → size_in (node_at root) ≡ 0 → ShrinksRoot node_at new root child
      → new_root ≡ Some child → UnderflowFix root new new_root node_at id
  -- a root leaf without items is freed, and the tree is empty
  empties : (node_at : NodeMap A) (id : ℕ) → id ≡ root → node_at root ≡ Some (leaf None []) → RemovesNode node_at new root
      → new_root ≡ None → UnderflowFix root new new_root node_at id

-- the same, with the old nodes first
abbrev pub IsUnderflowFixed : {A : Type 0} → (node_at new : NodeMap A) → (root : ℕ) → (new_root : Option ℕ) → (id : ℕ) → Type 0
IsUnderflowFixed node_at new root new_root id = UnderflowFix root new new_root node_at id
