use Rattle.btree_node.proofs.NodeSizes.{fits-internal}
use Rattle.btree_node.proofs.Common.{arith, rules, length-map, common_steps}
use Rattle.btree_node.proofs.node.Node.merge.Goals as goal

pub merge-requires : goal.merge-requires
merge-requires g c =
    let fits = c.well_formed in
    let within = rw c.in-Internal.is at c.requires.within in
    let long = length-map c.in-Internal.node.branches (λ b. b.1) in
    (search fits-internal, (c.requires.next, omega (arith, within, long)))

pub returns-clause-item : goal.returns-clause-item
returns-clause-item g c = rw c.in-Internal.is c.merge.ensures.item

pub unreachable-requires : goal.unreachable-requires
unreachable-requires g c = grind (arith, common_steps) steps 300000

pub unreachable-unreachable : goal.unreachable-unreachable
unreachable-unreachable g c = grind (arith, common_steps) steps 300000

pub returns-clause-index : goal.returns-clause-index
returns-clause-index g c = grind (arith, common_steps) steps 300000

pub returns-clause-left : goal.returns-clause-left
returns-clause-left g c = search rules steps 200000

pub returns-clause-right : goal.returns-clause-right
returns-clause-right g c = search rules steps 200000

pub returns-clause-after : goal.returns-clause-after
returns-clause-after g c = grind (arith, common_steps) steps 300000

pub returns-clause-balance : goal.returns-clause-balance
returns-clause-balance g c = search rules steps 200000
