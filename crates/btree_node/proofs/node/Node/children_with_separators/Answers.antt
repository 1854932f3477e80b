use Rattle.btree_node.proofs.NodeSizes.{fits-internal}
use Rattle.btree_node.proofs.node.Node.children_with_separators.Goals as goal

pub children_with_separators-requires : goal.children_with_separators-requires
children_with_separators-requires g c = search fits-internal
