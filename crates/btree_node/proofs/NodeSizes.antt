-- A part of a node fits in memory if the node does.
use Rattle.btree_node.proofs.Common.{param, ◌<◌, arith}
use denote.Param.{layout, number}
use denote.RattleType.{RattleType}
use prog.Memory.{size}
use Rattle.std.proofs.Common.{◌^◌}
use Rattle.btree_node.specs.contracts.node.Node.{the_row as node_row}
use Rattle.btree_item.specs.contracts.slots.Slots.{the_row as slots_row}
use Rattle.btree_internal.specs.contracts.internal.Branch.{the_row as branch_row}
use Rattle.btree_internal.specs.contracts.internal.InternalNode.{the_row as internal_row}
use Rattle.btree_leaf.specs.contracts.leaf.LeafNode.{the_row as leaf_row}

-- where a node's size is allowed, so is that of an internal node
pub fits-internal : (k v : RattleType) → size (layout (node_row (param 0 k) (param 1 v))) < 2 ^ 63 → size (layout (internal_row (param 0 k) (param 1 v))) < 2 ^ 63
fits-internal k v fits = omega arith

-- where a node's size is allowed, so is that of a leaf
pub fits-leaf : (k v : RattleType) → size (layout (node_row (param 0 k) (param 1 v))) < 2 ^ 63 → size (layout (leaf_row (param 0 k) (param 1 v))) < 2 ^ 63
fits-leaf k v fits = omega arith

pub fits-branches : (k v : RattleType) → size (layout (node_row (param 0 k) (param 1 v))) < 2 ^ 63 → size (layout (slots_row (branch_row (param 0 k) (param 1 v)) (number 8))) < 2 ^ 63
fits-branches k v fits = omega arith
