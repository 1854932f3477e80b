use Rattle.btree_node.proofs.NodeSizes.{fits-internal, fits-leaf}
use Rattle.btree_node.proofs.Common.{Some, arith, ap, sym, ◌∙◌, length-map, common_steps}
use Rattle.btree_node.proofs.node.Node.push_right.Goals as goal

pub push_right-requires : goal.push_right-requires
push_right-requires g c =
    let long = length-map c.in-Internal.node.branches (λ b. b.0) in
    let room = rw c.in-Internal.is at c.requires.room in
    (search fits-internal, omega (arith, room, long))

pub push_right-requires-in-Leaf : goal.push_right-requires-in-Leaf
push_right-requires-in-Leaf g c =
    let room = rw c.in-Leaf.is at c.requires.room in
    (search fits-leaf, omega (arith, room))

pub returns-in-Some-clause-offset : goal.returns-in-Some-clause-offset
returns-in-Some-clause-offset g c =
    rw c.in-Internal.is (c.push_right.ensures.offset ∙ ap (λ n. Some n) (sym (length-map c.in-Internal.node.branches (λ b. b.0))))

pub returns-in-Leaf-clause-offset : goal.returns-in-Leaf-clause-offset
returns-in-Leaf-clause-offset g c = rw c.in-Leaf.is c.push_right-in-Leaf.ensures.offset

pub unreachable-requires : goal.unreachable-requires
unreachable-requires g c = grind (arith, common_steps) steps 300000

pub unreachable-unreachable : goal.unreachable-unreachable
unreachable-unreachable g c = grind (arith, common_steps) steps 300000

pub returns-in-Some-clause-after : goal.returns-in-Some-clause-after
returns-in-Some-clause-after g c = grind (arith, common_steps) steps 300000

pub returns-in-Leaf-clause-after : goal.returns-in-Leaf-clause-after
returns-in-Leaf-clause-after g c = grind (arith, common_steps) steps 300000
