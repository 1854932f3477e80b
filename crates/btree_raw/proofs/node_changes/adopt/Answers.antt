use Rattle.btree_raw.proofs.Common.{arith, subst, view_of, children_of, Reparents, Changes, node_map, used-view}
use Rattle.btree_raw.proofs.ParentLemmas.{reparented-used, reparents-more, take-all}
use Rattle.btree_raw.proofs.StateLemmas.{then}
use Rattle.btree_raw.proofs.node_changes.adopt.Goals as goal

pub child_id-requires : goal.child_id-requires
child_id-requires g c = (c.tell_fits.ensures, (let e = c.child_count-index-end.ensures.value in let t = c.loop-index-test.true in omega arith))

pub set_parent-requires-clause-used : goal.set_parent-requires-clause-used
set_parent-requires-clause-used g c =
    used-view c.loop-index.tree.nodes c.child_id.result
    (reparented-used (node_map c.args.tree.now) c.args.parent (children_of (view_of c.args.node.now)) c.requires.there
    (node_map c.loop-index.tree) c.loop-index.index c.loop-index.invariant.nodes c.child_id.result c.child_id.ensures)

pub loop-index-preserved : goal.loop-index-preserved
loop-index-preserved g c = record {
  nodes =
      reparents-more (node_map c.args.tree.now) c.args.parent (children_of (view_of c.args.node.now)) c.requires.there
      (node_map c.loop-index.tree) c.loop-index.index c.loop-index.invariant.nodes c.child_id.result c.child_id.ensures
      (node_map c.set_parent.new.tree) c.set_parent.ensures.nodes;
  rest = then c.loop-index.invariant.rest c.set_parent.ensures.rest;
}

pub child_count-index-end-requires : goal.child_count-index-end-requires
child_count-index-end-requires g c = c.tell_fits.ensures

pub returns : goal.returns
returns g c =
    subst (λ ids. Changes (λ a b. Reparents a b c.args.parent ids) c.args.tree.now c.loop-index.tree)
    (take-all c.loop-index.index (children_of (view_of c.args.node.now))
    (let e = c.child_count-index-end.ensures.value in let t = c.loop-index-test.false in omega arith))
    c.loop-index.invariant
