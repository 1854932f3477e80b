use Rattle.btree_walk.proofs.Common.{refl, arith, ap, ◌∙◌, Some, option_map, view_of, fits-internal, node_map, under-internal}
use Rattle.std.specs.FinMap as map
use Rattle.btree_walk.proofs.RowLemmas.{pushed-smaller}
use Rattle.btree_walk.proofs.WalkLemmas.{ahead, under-used}
use Rattle.btree_walk.proofs.WayLemmas.{down-internal, down-leaf, down-room}
use Rattle.btree_walk.proofs.ancestors.descend.Goals as goal

pub loop-leaf-init : goal.loop-leaf-init
loop-leaf-init g c = record { rows = c.requires.above; under = c.requires.below; list = refl }

pub node-node-requires : goal.node-node-requires
node-node-requires g c = (c.tell_fits.ensures, under-used c.args.tree.now.nodes (map.len c.args.tree.now.nodes) _ c.loop-leaf.id c.loop-leaf.invariant.under)

pub push-requires : goal.push-requires
push-requires g c = (omega arith, down-room (ahead c.args.tree.now) c.loop-leaf.invariant)

pub loop-leaf-smaller : goal.loop-leaf-smaller
loop-leaf-smaller g c = pushed-smaller c.loop-leaf.ancestors _ c.push.new.self (down-room (ahead c.args.tree.now) c.loop-leaf.invariant) c.push.ensures

pub loop-leaf-preserved : goal.loop-leaf-preserved
loop-leaf-preserved g c =
    let inner = c.in-Internal.inner in
    let i = under-internal (node_map c.args.tree.now) (map.len c.args.tree.now.nodes) _ c.loop-leaf.id inner.parent inner.first inner.branches c.loop-leaf.invariant.under
    (ap (option_map view_of) c.node-node.ensures ∙ ap (λ n. Some (view_of n)) c.in-Internal.is) in
    rw c.first_child_id-id.ensures
    (down-internal (ahead c.args.tree.now) c.loop-leaf.invariant inner.first inner.branches i.first_under i.row_under i.list _ (rw c.in-Internal.is refl) c.push.ensures)

pub returns-in-Leaf-clause-left : goal.returns-in-Leaf-clause-left
returns-in-Leaf-clause-left g c =
    let leaf = c.in-Leaf.leaf in
    down-leaf (ahead c.args.tree.now) c.loop-leaf.invariant c.node-node.result.now c.node-node.ensures leaf.parent leaf.items (ap view_of c.in-Leaf.is)

pub first_child_id-id-requires : goal.first_child_id-id-requires
first_child_id-id-requires g c = search fits-internal
