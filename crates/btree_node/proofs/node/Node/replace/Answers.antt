use Rattle.btree_node.proofs.NodeSizes.{fits-internal}
use Rattle.btree_node.proofs.Common.{length-map, common_steps, arith}
use Rattle.btree_node.proofs.node.Node.replace.Goals as goal

pub replace-requires : goal.replace-requires
replace-requires g c =
    let long = length-map c.in-Internal.node.branches (λ b. b.0) in
    let within = rw c.in-Internal.is at c.requires.occupied in
    (search fits-internal, rw long at within)

pub returns-clause-answer : goal.returns-clause-answer
returns-clause-answer g c = rw c.in-Internal.is c.replace.ensures.answer

pub returns-clause-after : goal.returns-clause-after
returns-clause-after g c = rw c.in-Internal.is c.replace.ensures.after

pub unreachable-requires : goal.unreachable-requires
unreachable-requires g c = grind (arith, common_steps) steps 300000

pub unreachable-unreachable : goal.unreachable-unreachable
unreachable-unreachable g c = grind (arith, common_steps) steps 300000
