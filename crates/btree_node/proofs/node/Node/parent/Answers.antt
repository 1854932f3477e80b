use Rattle.btree_node.proofs.NodeSizes.{fits-internal, fits-leaf}
use Rattle.btree_node.proofs.node.Node.parent.Goals as goal

pub parent-requires : goal.parent-requires
parent-requires g c = search fits-internal

pub parent-requires-in-Leaf : goal.parent-requires-in-Leaf
parent-requires-in-Leaf g c = search fits-leaf
