use Rattle.btree_node.proofs.NodeSizes.{fits-internal}
use Rattle.btree_node.proofs.node.Node.binary.Goals as goal

pub binary-requires : goal.binary-requires
binary-requires g c = let fits = c.well_formed in search fits-internal
