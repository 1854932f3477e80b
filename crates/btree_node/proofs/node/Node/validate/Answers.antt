use Rattle.btree_node.proofs.NodeSizes.{fits-internal, fits-leaf}
use Rattle.btree_node.proofs.node.Node.validate.Goals as goal

pub validate-requires : goal.validate-requires
validate-requires g c = search fits-internal

pub validate-requires-in-Leaf : goal.validate-requires-in-Leaf
validate-requires-in-Leaf g c = search fits-leaf

pub returns-in-Internal : goal.returns-in-Internal
returns-in-Internal g c = rw c.in-Internal.is c.validate.ensures

pub returns-in-Leaf : goal.returns-in-Leaf
returns-in-Leaf g c = rw c.in-Leaf.is c.validate-in-Leaf.ensures
