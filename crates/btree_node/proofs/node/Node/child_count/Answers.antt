use Rattle.btree_node.proofs.NodeSizes.{fits-internal}
use Rattle.btree_node.proofs.node.Node.child_count.Goals as goal
use Rattle.btree_node.proofs.Common.{common_steps, arith, refl, rules}

pub child_count-requires : goal.child_count-requires
child_count-requires g c = search fits-internal

pub returns-in-Internal-clause-value : goal.returns-in-Internal-clause-value
returns-in-Internal-clause-value g c = grind (arith, common_steps) steps 300000

pub returns-in-Internal-clause-fits : goal.returns-in-Internal-clause-fits
returns-in-Internal-clause-fits g c = grind (arith, common_steps) steps 300000

pub returns-in-Leaf-clause-value : goal.returns-in-Leaf-clause-value
returns-in-Leaf-clause-value g c = rw (c.in-Leaf.is) refl

pub returns-in-Leaf-clause-fits : goal.returns-in-Leaf-clause-fits
returns-in-Leaf-clause-fits g c = search rules steps 200000
