-- A tree between the steps of a removal or an update: an item was taken out, and the length still counts it.
-- `TakesLeaf` and `TakesInner` say how, in a leaf and in an internal node, and `LacksOne` what may be repaired then.
use Rattle.std.specs.Prelude.{◌≡◌, ◌<◌, ◌-◌, ◌^◌, ℕ, Option, Some, None, Ok}
use Rattle.std.specs.FinMap as map
use Rattle.std.specs.declared.cmp.Ordering.{Ordering}
use Rattle.btree_item.specs.Address.{Address}
use Rattle.btree_node.specs.Node.{view_of}
use Rattle.btree_node.specs.declared.node.Node.{Node}
use Rattle.btree_view.specs.Edits.{with_other_item_at, without_at}
use Rattle.btree_view.specs.Removal.{removal_in}
use Rattle.btree_view.specs.View.{item_at_offset}
use Rattle.btree_laws.specs.TreeState.{TreeState, IsOffByOneAt, IsValidIn, item_of, node_map}
use Rattle.btree_raw.specs.LastItem.{TakesLast}
use Rattle.btree_raw.specs.Raw.{with_node}
use Rattle.btree_raw.specs.Rebalance.{HasRoom}
use Rattle.btree_raw.specs.Steps.{HasCount, HasParent}
use Rattle.btree_ext.specs.Remove.{HasChildBehind, IsInnerAt}
use Rattle.btree_ext.specs.declared.taken.Taken.{Taken}
use Rattle.btree_ext.specs.declared.taken.Taken.TheVariants.{Nothing, Leaf, Inner}

module _ {K V : Type 0} where
  -- the tree with a length that is one less
  abbrev pub one_less : TreeState K V → TreeState K V
  one_less s = record s { len = s.len - 1 }

  -- node `id`, which has lost an item, has so many items and this parent; with a length that is one less, the tree is
  -- off by one there, and address a is valid
  pub record LacksOne (cmp : K → K → Ordering) (s : TreeState K V) (id count : ℕ) (parent : Option ℕ) (a : Address) : Type 0 where
    pub some : 0 < s.len
    pub off : IsOffByOneAt cmp (one_less s) id
    pub valid : IsValidIn (one_less s) a
    pub room : HasRoom (node_map s) id
    pub counted : HasCount (node_map s) id count
    pub above : HasParent (node_map s) id parent

  -- so it is if the pairs are fewer than 2^64
  abbrev pub HasLost : (cmp : K → K → Ordering) (s : TreeState K V) (id count : ℕ) (parent : Option ℕ) (a : Address) → Type 0
  HasLost cmp s id count parent a = s.len < 2 ^ 64 → LacksOne cmp s id count parent a

  module _ (old new : TreeState K V) where
    -- the item x at address a of a leaf was taken out; nothing else has changed
    pub record TakesLeaf (a : Address) (x : K × V) : Type 0 where
      pub node : Node K V
      pub at : Some node ≡ map.get old.nodes a.id
      pub item : Some (Ok x) ≡ removal_in a.offset (view_of node)
      pub kept : Node K V
      pub shorter : view_of kept ≡ without_at a.offset (view_of node)
      pub after : new ≡ with_node old a.id kept

    -- in the place of the item x at address a of an internal node is the last one under child `left`, which was taken
    -- out of leaf `id`; nothing else has changed
    pub record TakesInner (a : Address) (left : ℕ) (x : K × V) (id : ℕ) : Type 0 where
      pub last : K × V
      pub taken : TreeState K V
      pub takes : TakesLast old taken left last id
      pub node : Node K V
      pub at : Some node ≡ map.get taken.nodes a.id
      pub item : Some x ≡ item_at_offset (view_of node) a.offset
      pub kept : Node K V
      pub replaced : view_of kept ≡ with_other_item_at a.offset last (view_of node)
      pub after : new ≡ with_node taken a.id kept

    -- what is so of the item at address a after this was taken out
    abbrev pub IsTaken : (cmp : K → K → Ordering) (a : Address) → Taken K V → Type 0
    IsTaken cmp a Nothing = (item_of old a ≡ None) × (new ≡ old)
    IsTaken cmp a (Leaf x count parent) = TakesLeaf a x × HasLost cmp new a.id count parent a
    IsTaken cmp a (Inner left right) = IsInnerAt old a left × HasChildBehind old a right × (new ≡ old)
