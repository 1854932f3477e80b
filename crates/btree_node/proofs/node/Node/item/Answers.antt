use Rattle.btree_node.proofs.NodeSizes.{fits-internal, fits-leaf}
use Rattle.btree_node.proofs.node.Node.item.Goals as goal

pub item-requires : goal.item-requires
item-requires g c = search fits-internal

pub item-requires-in-Leaf : goal.item-requires-in-Leaf
item-requires-in-Leaf g c = search fits-leaf

pub returns-in-Internal : goal.returns-in-Internal
returns-in-Internal g c = rw c.in-Internal.is c.item.ensures

pub returns-in-Leaf : goal.returns-in-Leaf
returns-in-Leaf g c = rw c.in-Leaf.is c.item-in-Leaf.ensures
