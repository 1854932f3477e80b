use Rattle.btree_node.proofs.NodeSizes.{fits-internal, fits-leaf}
use Rattle.btree_node.proofs.node.Node.is_overflowing.Goals as goal

pub is_overflowing-requires : goal.is_overflowing-requires
is_overflowing-requires g c = search fits-internal

pub is_overflowing-requires-in-Leaf : goal.is_overflowing-requires-in-Leaf
is_overflowing-requires-in-Leaf g c = search fits-leaf

pub returns-in-Internal : goal.returns-in-Internal
returns-in-Internal g c = rw c.in-Internal.is c.is_overflowing.ensures

pub returns-in-Leaf : goal.returns-in-Leaf
returns-in-Leaf g c = rw c.in-Leaf.is c.is_overflowing-in-Leaf.ensures
