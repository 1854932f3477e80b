-- A tree with another value at an address.
use Rattle.std.specs.Prelude.{ℕ, Option, Some, None}
use Rattle.std.specs.FinMap as map
use Rattle.btree_item.specs.Address.{Address}
use Rattle.btree_node.specs.declared.node.Node.{Node}
use Rattle.btree_node.specs.Node.{view_of}
use Rattle.btree_node.specs.NodeLends.{node_with_item_at}
use Rattle.btree_view.specs.View.{item_at_offset}
use Rattle.btree_laws.specs.TreeState.{TreeState}
use Rattle.btree_raw.specs.Raw.{with_node}

module _ {K V : Type 0} where
  -- the node with w as the value of this item, which is at an offset; at `None` the node itself
  abbrev pub item_written : Node K V → Option ℕ → V → Option (K × V) → Node K V
  item_written node offset w None = node
  item_written node offset w (Some x) = node_with_item_at offset node (x.0, w)

  -- the tree with w as the value at an offset of this node, which is under a number; at `None` the tree itself
  abbrev pub node_written : TreeState K V → Address → V → Option (Node K V) → TreeState K V
  node_written s a w None = s
  node_written s a w (Some node) = with_node s a.id (item_written node a.offset w (item_at_offset (view_of node) a.offset))

  -- the tree with w as the value of the item at an address; the tree itself if there is no item
  abbrev pub value_written : TreeState K V → Address → V → TreeState K V
  value_written s a w = node_written s a w (map.get s.nodes a.id)
