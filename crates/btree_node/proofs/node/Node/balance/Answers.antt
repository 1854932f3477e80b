use Rattle.btree_node.proofs.NodeSizes.{fits-internal, fits-leaf}
use Rattle.btree_node.proofs.node.Node.balance.Goals as goal

pub balance-requires : goal.balance-requires
balance-requires g c = search fits-internal

pub balance-requires-in-Leaf : goal.balance-requires-in-Leaf
balance-requires-in-Leaf g c = search fits-leaf

pub returns-in-Internal : goal.returns-in-Internal
returns-in-Internal g c = rw c.in-Internal.is c.balance.ensures

pub returns-in-Leaf : goal.returns-in-Leaf
returns-in-Leaf g c = rw c.in-Leaf.is c.balance-in-Leaf.ensures
