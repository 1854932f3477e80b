use Rattle.btree_node.proofs.NodeSizes.{fits-internal, fits-leaf}
use Rattle.btree_node.proofs.node.Node.set_parent.Goals as goal

pub set_parent-requires : goal.set_parent-requires
set_parent-requires g c = search fits-internal

pub set_parent-requires-in-Leaf : goal.set_parent-requires-in-Leaf
set_parent-requires-in-Leaf g c = search fits-leaf
