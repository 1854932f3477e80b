use Rattle.btree_node.proofs.NodeSizes.{fits-internal, fits-leaf}
use Rattle.btree_node.proofs.node.Node.item_count.Goals as goal
use Rattle.btree_node.proofs.Common.{common_steps, arith}

pub item_count-requires : goal.item_count-requires
item_count-requires g c = search fits-internal

pub item_count-requires-in-Leaf : goal.item_count-requires-in-Leaf
item_count-requires-in-Leaf g c = search fits-leaf

pub returns-in-Leaf-clause-value : goal.returns-in-Leaf-clause-value
returns-in-Leaf-clause-value g c = rw c.in-Leaf.is c.item_count-in-Leaf.ensures.value

pub returns-in-Internal-clause-value : goal.returns-in-Internal-clause-value
returns-in-Internal-clause-value g c = grind (arith, common_steps) steps 2000000

pub returns-in-Internal-clause-fits : goal.returns-in-Internal-clause-fits
returns-in-Internal-clause-fits g c = grind (arith, common_steps) steps 300000

pub returns-in-Leaf-clause-fits : goal.returns-in-Leaf-clause-fits
returns-in-Leaf-clause-fits g c = grind (arith, common_steps) steps 300000
