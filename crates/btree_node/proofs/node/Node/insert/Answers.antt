use Rattle.btree_node.proofs.NodeSizes.{fits-internal, fits-leaf}
use Rattle.btree_node.proofs.Common.{arith, length-map, common_steps}
use Rattle.btree_node.proofs.NodeLemmas.{with_item-leaf}
use Rattle.btree_node.proofs.node.Node.insert.Goals as goal

pub insert-requires : goal.insert-requires
insert-requires g c =
    let long = length-map c.in-Internal.node.branches (λ b. b.0) in
    let room = rw c.in-Internal.is at c.requires.room in
    let within = rw c.in-Internal.is at c.requires.within in
    (search fits-internal, (omega (arith, room, long), rw long at within))

pub insert-requires-in-Leaf : goal.insert-requires-in-Leaf
insert-requires-in-Leaf g c =
    let room = rw c.in-Leaf.is at c.requires.room in
    (search fits-leaf, (omega (arith, room), rw c.in-Leaf.is at c.requires.within))

pub returns-in-Some : goal.returns-in-Some
returns-in-Some g c = rw (c.in-Internal.is, c.in-Some.is) c.insert.ensures

pub returns-in-Leaf : goal.returns-in-Leaf
returns-in-Leaf g c = rw c.in-Leaf.is (with_item-leaf c.in-Leaf.leaf c.args.offset c.args.item c.args.opt_right _ c.insert-in-Leaf.ensures)

pub unreachable-requires : goal.unreachable-requires
unreachable-requires g c = grind (arith, common_steps) steps 300000

pub unreachable-unreachable : goal.unreachable-unreachable
unreachable-unreachable g c = grind (arith, common_steps) steps 300000
