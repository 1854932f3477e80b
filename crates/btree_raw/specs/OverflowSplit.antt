-- Where nodes with an item too many are split, and in which order.
-- Such a node keeps the items before its median, and a new node gets those after it (`CutsNode`). The median goes to the
-- parent, with the new node as the child after it (`AddsSeparator`), and the parent is next. If there is no parent, the
-- median goes to a new root. The contract of `rebalance` cites `IsOverflowSplit`.
use Rattle.std.specs.Prelude.{◌≡◌, ℕ, ◌≤◌, List, [], ◌∷◌, ◌++◌, slice_get, Option, Some, None, option_map}
use Rattle.btree_view.specs.View.{View, NodeMap, size_of, most_of, children_of, parent_of}
use Rattle.btree_view.specs.Edits.{with_item, IsOverflowing}
use Rattle.btree_laws.specs.Step.{Claims, GrowsRoot, Splits, WritesNode}

module _ {A : Type 0} (node_at new : NodeMap A) where
  -- node `id` has no item too many; nothing has changed
  pub record StaysWhole (id : ℕ) : Type 0 where
    pub node : View A
    pub here : node_at id ≡ Some node
    pub room : size_of node ≤ most_of node
    pub same : new ≡ node_at

  -- node `id` had an item too many and named this parent, and was split at the median; it kept this many items, and its
  -- right part went to the last of the claimed numbers
  pub record CutsNode (id : ℕ) (spare rest : List ℕ) (parent : Option ℕ) (kept : ℕ) (median : A) (right : ℕ) : Type 0 where
    pub named : option_map parent_of (node_at id) ≡ Some parent
    pub last : spare ≡ rest ++ right ∷ []
    pub splits : Splits node_at new id right median
    pub over : IsOverflowing splits.node
    pub leaves : option_map size_of (new id) ≡ Some kept

  -- node `above` has the item at the index of its child `id`, and node `right` as the child after it; nothing else has
  -- changed
  pub record AddsSeparator (above id right index : ℕ) (x : A) : Type 0 where
    pub node : View A
    pub here : node_at above ≡ Some node
    pub child : slice_get (children_of node) index ≡ Some id
    pub writes_node : WritesNode node_at new above (with_item index x (Some right) node)

-- the nodes `node_at` with this root become `new` with the new root, from node `id` upward, with these numbers for new
-- nodes:
pub data OverflowSplit {A : Type 0} (root : ℕ) (new : NodeMap A) (new_root : Option ℕ) : (node_at : NodeMap A) → (id : ℕ) → (spare : List ℕ) → Type 0 where
  -- a node without an item too many stays, and nothing changes
  rests : (node_at : NodeMap A) (id : ℕ) (spare : List ℕ) → StaysWhole node_at new id → spare ≡ [] → new_root ≡ Some root
      → OverflowSplit root new new_root node_at id spare
  -- another one is cut at its median, which goes to its parent, and the parent is next
  goes_up : (node_at half above : NodeMap A) (id parent kept right index : ℕ) (median : A) (spare rest : List ℕ)
      → CutsNode node_at half id spare rest (Some parent) kept median right → AddsSeparator half above parent id right index median
      → OverflowSplit root new new_root above parent rest → OverflowSplit root new new_root node_at id spare
  -- the root is cut at its median, which goes to a new root
  grows_root : (node_at half : NodeMap A) (id kept right top : ℕ) (median : A) (spare : List ℕ)
      → CutsNode node_at half id spare (top ∷ []) None kept median right → GrowsRoot half new id right top median → new_root ≡ Some top
      → OverflowSplit root new new_root node_at id spare

-- so it is once the numbers for new nodes are claimed
pub record IsOverflowSplit {A : Type 0} (node_at new : NodeMap A) (root : ℕ) (new_root : Option ℕ) (id : ℕ) : Type 0 where
  pub spare : List ℕ
  pub claimed : NodeMap A
  pub claims : Claims node_at claimed spare
  pub splits : OverflowSplit root new new_root claimed id spare
