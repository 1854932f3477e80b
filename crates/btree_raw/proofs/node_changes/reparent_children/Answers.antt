use Rattle.btree_raw.proofs.Common.{used-view, common_steps, arith, rules}
use Rattle.btree_raw.proofs.ParentLemmas.{still-used, index-below, child-used, child-reparented}
use Rattle.btree_raw.proofs.StateLemmas.{then}
use Rattle.btree_raw.proofs.node_changes.reparent_children.Goals as goal

pub node-requires : goal.node-requires
node-requires g c = (c.tell_fits.ensures, used-view c.args.tree.now.nodes c.args.id c.requires.used)

pub node-requires-in-loop-index : goal.node-requires-in-loop-index
node-requires-in-loop-index g c = (c.tell_fits.ensures, still-used c.args.tree.now.nodes c.loop-index.tree.nodes c.args.id c.requires c.loop-index.index c.loop-index.invariant.nodes)

pub child_id-child-requires : goal.child_id-child-requires
child_id-child-requires g c = (
  c.tell_fits.ensures,
  index-below c.args.tree.now.nodes c.loop-index.tree.nodes c.args.id c.requires c.loop-index.index c.loop-index.invariant.nodes
      c.node-in-loop-index.result.now c.node-in-loop-index.ensures.value c.node.result.now c.child_count-count.result c.node.ensures.value c.child_count-count.ensures.value c.loop-index-test.true,
)

pub set_parent-requires-clause-used : goal.set_parent-requires-clause-used
set_parent-requires-clause-used g c =
    child-used c.args.tree.now.nodes c.loop-index.tree.nodes c.args.id c.requires c.loop-index.index c.loop-index.invariant.nodes
    c.node-in-loop-index.result.now c.node-in-loop-index.ensures.value c.child_id-child.result c.child_id-child.ensures

pub loop-index-preserved : goal.loop-index-preserved
loop-index-preserved g c = record {
  nodes =
      child-reparented c.args.tree.now.nodes c.loop-index.tree.nodes c.args.id c.requires c.loop-index.index c.loop-index.invariant.nodes
      c.node-in-loop-index.result.now c.node-in-loop-index.ensures.value c.child_id-child.result c.child_id-child.ensures c.set_parent.new.tree.nodes c.set_parent.ensures.nodes;
  rest = then c.loop-index.invariant.rest c.set_parent.ensures.rest;
}

pub tell_fits-requires : goal.tell_fits-requires
tell_fits-requires g c κs = search rules steps 200000

pub loop-index-init : goal.loop-index-init
loop-index-init g c = grind (arith, common_steps) steps 300000

pub set_parent-requires-clause-number : goal.set_parent-requires-clause-number
set_parent-requires-clause-number g c = grind (arith, common_steps) steps 300000

pub loop-index-smaller : goal.loop-index-smaller
loop-index-smaller g c = grind (arith, common_steps) steps 300000

pub returns : goal.returns
returns g c = grind (arith, common_steps) steps 300000

pub child_count-count-requires : goal.child_count-count-requires
child_count-count-requires g c = c.tell_fits.ensures
