use Rattle.btree_node.proofs.NodeSizes.{fits-internal}
use Rattle.btree_node.proofs.node.Node.child_id_opt.Goals as goal

pub child_id_opt-requires : goal.child_id_opt-requires
child_id_opt-requires g c = search fits-internal
