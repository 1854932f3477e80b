use Rattle.btree_node.proofs.NodeSizes.{fits-internal, fits-leaf}
use Rattle.btree_node.proofs.node.Node.is_underflowing.Goals as goal

pub is_underflowing-requires : goal.is_underflowing-requires
is_underflowing-requires g c = search fits-internal

pub is_underflowing-requires-in-Leaf : goal.is_underflowing-requires-in-Leaf
is_underflowing-requires-in-Leaf g c = search fits-leaf

pub returns-in-Internal : goal.returns-in-Internal
returns-in-Internal g c = rw c.in-Internal.is c.is_underflowing.ensures

pub returns-in-Leaf : goal.returns-in-Leaf
returns-in-Leaf g c = rw c.in-Leaf.is c.is_underflowing-in-Leaf.ensures
