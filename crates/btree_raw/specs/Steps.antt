-- Changes of single nodes, and splits: what they require, and what they leave.
-- `CanAddItem` and the other words with `Can` are what calls require of the nodes. What a call leaves is here or in
-- `Step.antt` of `btree_laws`. Read them in the order of a split: `CanAddItem` and `AddsItem` (an item is added);
-- `Overflows` and `CutsAtMedian`, `CanReparent`, `CanSplitInto` (a node is split); `CanAddSeparator` and
-- `AddsSeparator` of `OverflowSplit.antt` (the median goes to the parent); `CanGrowRoot` (or to a new root). Then the
-- whole way upward: `split_upward` requires `IsSplitting` and ensures `SplitsUpward`, so what held of the tree and of
-- the followed address at the start (`MayOverflowAt`) holds at the end (`IsRepaired`). `IsCountingSplits` is what
-- `split_need` requires, and the state of its loop. The words of `Rebalance.antt` cite `Overflows` too.
use Rattle.std.specs.Prelude.{◌≡◌, ◌≢◌, ℕ, ◌+◌, ◌-◌, ◌^◌, ◌<◌, ◌≤◌, List, [], ◌∷◌, ◌++◌, All, length, Option, Some, None, option_map, IsTrue, Bool, nat_lt}
use Rattle.btree_item.specs.declared.TheConstants.{MAX_CLAIMS}
use Rattle.btree_item.specs.Address.{Address}
use Rattle.btree_view.specs.View.{View, NodeMap, size_of, most_of, children_in, children_of, parent_of}
use Rattle.btree_view.specs.Edits.{with_parent, with_item, is_internal, HasChildFor, IsOverflowing, IsSplit}
use Rattle.btree_laws.specs.Focus.Overflow.{MayOverflowAt, IsRepaired}
use Rattle.btree_laws.specs.Focus.Need.{IsCountingUpward}
use Rattle.btree_laws.specs.Need.{split_need}
use Rattle.btree_laws.specs.Lists.{times_listed}
use Rattle.btree_laws.specs.Step.{Becomes, WritesNode}
use Rattle.btree_laws.specs.TreeState.{TreeState, Changes, node_map}
use Rattle.btree_laws.specs.WellFormed.{times_used}
use Rattle.btree_raw.specs.declared.node_changes.Cut.{Cut}
use Rattle.btree_raw.specs.OverflowSplit.{AddsSeparator, CutsNode, OverflowSplit, StaysWhole}

module _ {A : Type 0} (node_at : NodeMap A) where
  -- node `id` has room for an item at the index, and a child is given exactly if it is an internal node
  pub record CanAddItem (id index : ℕ) (child : Option ℕ) : Type 0 where
    pub node : View A
    pub here : node_at id ≡ Some node
    pub room : size_of node ≤ most_of node
    pub within : index ≤ size_of node
    pub kind : HasChildFor child node

  -- node `id` has an item too many
  pub record Overflows (id : ℕ) : Type 0 where
    pub node : View A
    pub here : node_at id ≡ Some node
    pub over : IsOverflowing node

  -- each of these numbers is that of a node
  abbrev pub AreThere : List ℕ → Type 0
  AreThere ids = (n : ℕ) → 0 < times_listed n ids → 0 < times_used (node_at n)

  -- node `id` is there, and so are its children, none of which is the node itself
  pub record CanReparent (id : ℕ) : Type 0 where
    pub used : 0 < times_used (node_at id)
    pub children : (n : ℕ) → 0 < times_listed n (children_in (node_at id)) → 0 < times_used (node_at n)
    pub apart : times_listed id (children_in (node_at id)) ≡ 0

  module _ (new : NodeMap A) where
    -- node `id` has this parent; nothing else has changed
    abbrev pub SetsParent : (id parent : ℕ) → Type 0
    SetsParent id parent = Becomes node_at new id (option_map (with_parent (Some parent)) (node_at id))

    -- node `id` has the item at the index, and the child after it if one is given; nothing else has changed
    abbrev pub AddsItem : (id index : ℕ) (x : A) (child : Option ℕ) → Type 0
    AddsItem id index x child = Becomes node_at new id (option_map (with_item index x child) (node_at id))

    -- node `id` is cut at the median, and its left part, with `left_count` items, stays there; nothing else has changed
    pub record CutsAtMedian (id left_count : ℕ) (median : A) (right : View A) : Type 0 where
      pub left : View A
      pub counted : left_count ≡ size_of left
      pub parts : (node : View A) → node_at id ≡ Some node → IsSplit node median left right
      pub writes_node : WritesNode node_at new id left

  -- node `id` overflows, and another node is there for its right part; the children of `id` are there, and none of them
  -- is one of these two
  pub record CanSplitInto (id right : ℕ) : Type 0 where
    pub can : Overflows id
    pub right_used : 0 < times_used (node_at right)
    pub apart : right ≢ id
    pub children : (n : ℕ) → 0 < times_listed n (children_in (node_at id)) → 0 < times_used (node_at n)
    pub children_apart : (times_listed id (children_in (node_at id)) ≡ 0) × (times_listed right (children_in (node_at id)) ≡ 0)

  -- there are claimed numbers, and the last one is that of a node that can take the right part of node `id`
  pub record CanCut (id : ℕ) (spare : List ℕ) : Type 0 where
    pub some : 0 < length spare
    pub into : (rest : List ℕ) (right : ℕ) → spare ≡ rest ++ right ∷ [] → CanSplitInto id right
    pub low : (rest : List ℕ) (right : ℕ) → spare ≡ rest ++ right ∷ [] → right < 2 ^ 64 - 1

  -- three different nodes that are there
  pub record CanGrowRoot (left right root : ℕ) : Type 0 where
    pub left_used : 0 < times_used (node_at left)
    pub right_used : 0 < times_used (node_at right)
    pub root_used : 0 < times_used (node_at root)
    pub apart : (left ≢ right) × (left ≢ root) × (right ≢ root)

  -- node `id` has `count` items
  abbrev pub HasCount : (id count : ℕ) → Type 0
  HasCount id count = option_map size_of (node_at id) ≡ Some count

  -- node `id` names this parent
  abbrev pub HasParent : (id : ℕ) (parent : Option ℕ) → Type 0
  HasParent id parent = option_map parent_of (node_at id) ≡ Some parent

  -- node `above` is an internal node with room for an item, and node `id` is one of its children
  pub record CanAddSeparator (above id : ℕ) : Type 0 where
    pub node : View A
    pub here : node_at above ≡ Some node
    pub inner : IsTrue (is_internal node)
    pub room : size_of node ≤ most_of node
    pub child : 0 < times_listed id (children_of node)

  -- node `id` of the tree with this root may have an item too many, `spare` has the numbers for the splits, and an
  -- address is followed
  pub record IsSplitting (root : Option ℕ) (id : ℕ) (spare : List ℕ) (a : Address) : Type 0 where
    pub top : ℕ
    pub at_root : root ≡ Some top
    pub xs : List A
    pub expected : Option A
    pub place : ℕ
    pub allocated : ℕ
    pub bound : ℕ
    pub overflow : MayOverflowAt A node_at top xs id spare expected a place allocated bound

  -- the result of a split upward: whatever held of the tree and of address `a` holds of the tree under the new root and
  -- of address `b`, no node overflows, and each of the numbers is that of a node; the nodes are cut as `OverflowSplit`
  -- says
  pub record AreSplit (new : NodeMap A) (root new_root : Option ℕ) (id : ℕ) (spare : List ℕ) (a b : Address) : Type 0 where
    pub top : ℕ
    pub at_root : new_root ≡ Some top
    pub repaired : (old_top : ℕ) (xs : List A) (expected : Option A) (place allocated bound : ℕ) → root ≡ Some old_top
        → MayOverflowAt A node_at old_top xs id spare expected a place allocated bound → IsRepaired A new top xs expected b place (allocated + length spare) bound
    pub order : (old_top : ℕ) → root ≡ Some old_top → OverflowSplit old_top new new_root node_at id spare

-- a node of `whole` was cut, and its right part is yet to be placed, at the last of the claimed numbers
pub record LeavesPart {A : Type 0} (now : NodeMap A) (right : View A) (spare : List ℕ) : Type 0 where
  pub whole : NodeMap A
  pub id : ℕ
  pub kept : ℕ
  pub median : A
  pub half : CutsAtMedian whole now id kept median right
  pub can : CanCut whole id spare

-- the same for the whole tree: nothing but its nodes and its root has changed, and the same numbers are used
pub record SplitsUpward {K V : Type 0} (old new : TreeState K V) (id : ℕ) (spare : List ℕ) (a b : Address) : Type 0 where
  pub split : AreSplit (node_map old) (node_map new) old.root new.root id spare a b
  pub used : (n : ℕ) → times_used (node_map new n) ≡ times_used (node_map old n)
  pub len : new.len ≡ old.len
  pub uncounted : new.kept ≡ old.kept

module _ {K V : Type 0} where
  module _ (node_at new : NodeMap (K × V)) (id : ℕ) (spare rest : List ℕ) where
    -- node `id` was cut if it had an item too many; else no claimed number was used
    abbrev pub MayCut : Option (Cut K V) → Type 0
    MayCut (Some cut) = CutsNode node_at new id spare rest cut.parent cut.kept cut.median cut.right
    MayCut None = StaysWhole node_at new id × (rest ≡ spare)

  module _ (old : TreeState K V) where
    -- if node `id` has an item too many once the item is added, it can be cut
    abbrev pub CanCutWith : (id index : ℕ) (x : K × V) (child : Option ℕ) (spare : List ℕ) → Type 0
    CanCutWith id index x child spare = (added : TreeState K V) → Changes (λ a b. AddsItem a b id index x child) old added
        → Overflows (node_map added) id → CanCut (node_map added) id spare

    -- if node `above` has an item too many once the median is added after its child `id`, it can be cut
    abbrev pub CanCutAbove : (above id right : ℕ) (x : K × V) (spare : List ℕ) → Type 0
    CanCutAbove above id right x spare = (added : TreeState K V) (index : ℕ) → Changes (λ a b. AddsSeparator a b above id right index x) old added
        → Overflows (node_map added) above → CanCut (node_map added) above spare

  module _ (old new : TreeState K V) (id index : ℕ) (x : K × V) (child : Option ℕ) where
    -- an item was added to node `id`, which gave `added`, and the node was cut if it then had an item too many
    pub record AddsAndCuts (spare rest : List ℕ) (cut : Option (Cut K V)) : Type 0 where
      pub added : TreeState K V
      pub adds : Changes (λ a b. AddsItem a b id index x child) old added
      pub cuts : Changes (λ a b. MayCut a b id spare rest cut) added new

    -- an item was added to node `id`, which gave `added`, and splits went upward from there
    pub record AddsAndSplits (spare : List ℕ) (a b : Address) : Type 0 where
      pub added : TreeState K V
      pub adds : Changes (λ a b. AddsItem a b id index x child) old added
      pub splits : SplitsUpward added new id spare a b

  -- node `above` has the item at the index of its child `id`, and node `right` as the child after it, which gave
  -- `added`, and was cut if it then had an item too many
  pub record AddsSeparatorAndCuts (old new : TreeState K V) (above id right index : ℕ) (x : K × V) (spare rest : List ℕ) (cut : Option (Cut K V)) : Type 0 where
    pub added : TreeState K V
    pub adds : Changes (λ a b. AddsSeparator a b above id right index x) old added
    pub cuts : Changes (λ a b. MayCut a b above spare rest cut) added new

  -- splits may go upward once the item is added
  abbrev pub MaySplitWith : (old : TreeState K V) (id index : ℕ) (x : K × V) (child : Option ℕ) (spare : List ℕ) (a : Address) → Type 0
  MaySplitWith old id index x child spare a = (added : TreeState K V) → Changes (λ a b. AddsItem a b id index x child) old added
      → IsSplitting (node_map added) added.root id spare a

  -- splits may go upward from node `id` of `whole`, which then was cut if it had an item too many
  pub record IsCutFrom (whole now : TreeState K V) (id : ℕ) (cut : Option (Cut K V)) (spare rest : List ℕ) (a : Address) : Type 0 where
    pub splitting : IsSplitting (node_map whole) whole.root id spare a
    pub low : All (λ n. n < 2 ^ 64 - 1) spare
    pub cuts : Changes (λ a b. MayCut a b id spare rest cut) whole now

module _ {A : Type 0} where
  -- what decides how far splits go upward from a node: its parent, and whether it has room for an item
  abbrev pub split_key : View A → Option ℕ × Bool
  split_key node = (parent_of node, nat_lt (size_of node) (most_of node))

  -- the same numbers are used, and splits go equally far upward from each node
  abbrev pub AreSplitAlike : (node_at other : NodeMap A) → Type 0
  AreSplitAlike node_at other = (n : ℕ) → option_map split_key (other n) ≡ option_map split_key (node_at n)

module _ {A : Type 0} (node_at : NodeMap A) where
  -- the count of the nodes that splits from `start` need has reached node `id`; it comes to at most 33, on at most
  -- `most` levels. The nodes need not form a tree themselves: it is enough that those of `tree` are split alike
  pub record IsCountingSplits (most start id counted : ℕ) : Type 0 where
    pub tree : NodeMap A
    pub alike : AreSplitAlike node_at tree
    pub root : ℕ
    pub xs : List A
    pub upward : IsCountingUpward A tree root xs most id counted (split_need tree most start)
    pub few : split_need tree most start ≤ MAX_CLAIMS
