use Rattle.btree_node.proofs.NodeSizes.{fits-internal, fits-leaf}
use Rattle.btree_node.proofs.Common.{Some, ap, sym, ◌∙◌, arith, length-map, common_steps}
use Rattle.btree_node.proofs.node.Node.append_from.Goals as goal

pub append_from-requires : goal.append_from-requires
append_from-requires g c =
    let fits = c.well_formed in
    (search fits-internal, rw (c.in-Internal.is, c.in-Internal-other.is) at c.requires.room)

pub append_from-requires-in-Leaf-other-2 : goal.append_from-requires-in-Leaf-other-2
append_from-requires-in-Leaf-other-2 g c =
    let fits = c.well_formed in
    (search fits-leaf, rw (c.in-Leaf.is, c.in-Leaf-other-2.is) at c.requires.room)

pub returns-in-Internal-other-clause-offset : goal.returns-in-Internal-other-clause-offset
returns-in-Internal-other-clause-offset g c =
    rw c.in-Internal.is (c.append_from.ensures.offset ∙ ap (λ n. Some n) (sym (length-map c.in-Internal.node.branches (λ b. b.0))))

pub returns-in-Internal-other-clause-after : goal.returns-in-Internal-other-clause-after
returns-in-Internal-other-clause-after g c = rw (c.in-Internal.is, c.in-Internal-other.is) c.append_from.ensures.after

pub returns-in-Leaf-other-2-clause-offset : goal.returns-in-Leaf-other-2-clause-offset
returns-in-Leaf-other-2-clause-offset g c = rw c.in-Leaf.is c.append_from-in-Leaf-other-2.ensures.offset

pub returns-in-Leaf-other-2-clause-after : goal.returns-in-Leaf-other-2-clause-after
returns-in-Leaf-other-2-clause-after g c = rw (c.in-Leaf.is, c.in-Leaf-other-2.is) c.append_from-in-Leaf-other-2.ensures.after

pub unreachable-requires : goal.unreachable-requires
unreachable-requires g c = grind (arith, common_steps) steps 300000

pub unreachable-unreachable : goal.unreachable-unreachable
unreachable-unreachable g c = grind (arith, common_steps) steps 300000

pub unreachable-requires-in-Internal-other-2 : goal.unreachable-requires-in-Internal-other-2
unreachable-requires-in-Internal-other-2 g c = grind (arith, common_steps) steps 300000

pub unreachable-unreachable-in-Internal-other-2 : goal.unreachable-unreachable-in-Internal-other-2
unreachable-unreachable-in-Internal-other-2 g c = grind (arith, common_steps) steps 300000
