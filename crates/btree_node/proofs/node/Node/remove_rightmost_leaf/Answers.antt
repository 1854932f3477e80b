use Rattle.btree_node.proofs.NodeSizes.{fits-internal, fits-leaf}
use Rattle.btree_node.proofs.Common.{ap, refl, sym, ◌∙◌, arith, rules, length-map, slice_get, internal_view, children_of}
use Rattle.btree_node.proofs.node.Node.remove_rightmost_leaf.Goals as goal

pub item_count-requires : goal.item_count-requires
item_count-requires g c = search fits-internal

pub child_id-requires : goal.child_id-requires
child_id-requires g c = (search fits-internal, omega (arith, c.item_count.ensures.value))

pub remove_last-requires : goal.remove_last-requires
remove_last-requires g c =
    let has_item = rw c.in-Leaf.is at c.requires in
    (search fits-leaf, has_item refl)

pub returns-in-Leaf-clause-item : goal.returns-in-Leaf-clause-item
returns-in-Leaf-clause-item g c = rw c.in-Leaf.is c.remove_last.ensures.answer

pub returns-in-Leaf-clause-taken : goal.returns-in-Leaf-clause-taken
returns-in-Leaf-clause-taken g c = rw c.in-Leaf.is c.remove_last.ensures.after

pub returns-in-Internal-clause-child : goal.returns-in-Internal-clause-child
returns-in-Internal-clause-child g c =
    let node = c.in-Internal.node in
    let count = c.item_count.ensures.value ∙ sym (length-map node.branches (λ b. b.0)) in
    rw c.in-Internal.is (sym c.child_id.ensures ∙ ap (slice_get (children_of (internal_view node))) count)

pub returns-in-Internal-clause-item : goal.returns-in-Internal-clause-item
returns-in-Internal-clause-item g c = search rules steps 200000

pub returns-in-Internal-clause-taken : goal.returns-in-Internal-clause-taken
returns-in-Internal-clause-taken g c = search rules steps 200000

pub returns-in-Internal-clause-inner : goal.returns-in-Internal-clause-inner
returns-in-Internal-clause-inner g c = sym c.in-Internal.is

pub returns-in-Leaf-clause-child : goal.returns-in-Leaf-clause-child
returns-in-Leaf-clause-child g c = search rules steps 200000

pub returns-in-Leaf-clause-inner : goal.returns-in-Leaf-clause-inner
returns-in-Leaf-clause-inner g c = search rules steps 200000
