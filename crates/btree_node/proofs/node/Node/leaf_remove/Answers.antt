use Rattle.btree_node.proofs.NodeSizes.{fits-internal, fits-leaf}
use Rattle.btree_node.proofs.Common.{sym, arith, rules, length-map, view_of}
use Rattle.btree_view.proofs.RemovalLemmas.{removal-internal, removal-leaf, removal-past}
use Rattle.btree_node.proofs.node.Node.leaf_remove.Goals as goal

pub returns-then-index-item_count-clause-answer : goal.returns-then-index-item_count-clause-answer
returns-then-index-item_count-clause-answer g c =
    removal-past (view_of c.args.self.now) c.args.offset c.in-Some.index c.in-Some.ensures.value (omega (arith, c.item_count.ensures.value, c.if-index-item_count.true))

pub child_id-requires : goal.child_id-requires
child_id-requires g c =
    let long = length-map c.in-Internal.node.branches (λ b. b.0) in
    let count = rw c.in-Internal.is at c.item_count.ensures.value in
    (search fits-internal, omega (arith, count, long, c.if-index-item_count.false))

pub remove-requires : goal.remove-requires
remove-requires g c =
    let count = rw c.in-Leaf.is at c.item_count.ensures.value in
    (search fits-leaf, rw (← c.in-Some.ensures.value) (omega (arith, count, c.if-index-item_count.false)))

pub returns-in-Internal-clause-answer : goal.returns-in-Internal-clause-answer
returns-in-Internal-clause-answer g c =
    removal-internal (view_of c.args.self.now) c.args.offset c.in-Some.index c.in-Some.ensures.value c.child_id.result (omega (arith, c.item_count.ensures.value, c.if-index-item_count.false)) (rw c.in-Internal.is c.child_id.ensures)

pub returns-in-Leaf-clause-answer : goal.returns-in-Leaf-clause-answer
returns-in-Leaf-clause-answer g c =
    rw c.in-Leaf.is (removal-leaf c.in-Leaf.leaf.parent c.in-Leaf.leaf.items c.args.offset c.remove.result c.remove.ensures.answer)

pub value-requires : goal.value-requires
value-requires g c = search rules steps 200000

pub returns-in_default-clause-answer : goal.returns-in_default-clause-answer
returns-in_default-clause-answer g c = search rules steps 200000

pub returns-in_default-clause-taken : goal.returns-in_default-clause-taken
returns-in_default-clause-taken g c = search rules steps 200000

pub returns-in_default-clause-inner : goal.returns-in_default-clause-inner
returns-in_default-clause-inner g c = search rules steps 200000

pub returns-in_default-clause-none : goal.returns-in_default-clause-none
returns-in_default-clause-none g c = search rules steps 200000

pub item_count-requires : goal.item_count-requires
item_count-requires g c = assumption

pub returns-then-index-item_count-clause-taken : goal.returns-then-index-item_count-clause-taken
returns-then-index-item_count-clause-taken g c = search rules steps 200000

pub returns-then-index-item_count-clause-inner : goal.returns-then-index-item_count-clause-inner
returns-then-index-item_count-clause-inner g c = search rules steps 200000

pub returns-then-index-item_count-clause-none : goal.returns-then-index-item_count-clause-none
returns-then-index-item_count-clause-none g c = search rules steps 200000

pub returns-in-Internal-clause-taken : goal.returns-in-Internal-clause-taken
returns-in-Internal-clause-taken g c = search rules steps 200000

pub returns-in-Internal-clause-inner : goal.returns-in-Internal-clause-inner
returns-in-Internal-clause-inner g c = sym c.in-Internal.is

pub returns-in-Internal-clause-none : goal.returns-in-Internal-clause-none
returns-in-Internal-clause-none g c = search rules steps 200000

pub returns-in-Leaf-clause-taken : goal.returns-in-Leaf-clause-taken
returns-in-Leaf-clause-taken g c = rw c.in-Leaf.is c.remove.ensures.after

pub returns-in-Leaf-clause-inner : goal.returns-in-Leaf-clause-inner
returns-in-Leaf-clause-inner g c = search rules steps 200000

pub returns-in-Leaf-clause-none : goal.returns-in-Leaf-clause-none
returns-in-Leaf-clause-none g c = search rules steps 200000
