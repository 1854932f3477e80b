use Rattle.btree_node.proofs.NodeSizes.{fits-internal, fits-leaf}
use Rattle.btree_node.proofs.Common.{arith, length-map, common_steps}
use Rattle.btree_node.proofs.node.Node.push_left.Goals as goal

pub push_left-requires : goal.push_left-requires
push_left-requires g c =
    let long = length-map c.in-Internal.node.branches (λ b. b.0) in
    let room = rw c.in-Internal.is at c.requires.room in
    (search fits-internal, omega (arith, room, long))

pub push_left-requires-in-Leaf : goal.push_left-requires-in-Leaf
push_left-requires-in-Leaf g c =
    let room = rw c.in-Leaf.is at c.requires.room in
    (search fits-leaf, omega (arith, room))

pub unreachable-requires : goal.unreachable-requires
unreachable-requires g c = grind (arith, common_steps) steps 300000

pub unreachable-unreachable : goal.unreachable-unreachable
unreachable-unreachable g c = grind (arith, common_steps) steps 300000

pub returns-in-Some : goal.returns-in-Some
returns-in-Some g c = grind (arith, common_steps) steps 300000

pub returns-in-Leaf : goal.returns-in-Leaf
returns-in-Leaf g c = grind (arith, common_steps) steps 300000
