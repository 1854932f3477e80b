use Rattle.btree_node.proofs.NodeSizes.{fits-internal}
use Rattle.btree_node.proofs.node.Node.children.Goals as goal

pub children-requires : goal.children-requires
children-requires g c = search fits-internal
