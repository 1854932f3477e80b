use Rattle.btree_node.proofs.NodeSizes.{fits-leaf}
use Rattle.btree_node.proofs.node.Node.leaf.Goals as goal

pub new-requires : goal.new-requires
new-requires g c = let fits = c.well_formed in search fits-leaf
