use Rattle.btree_owned_walk.proofs.Common.{ap, sym, subst, option_map, refl, arith, slice_get, ◌∙◌, view_of, children_of, node_map}
use Rattle.btree_owned_walk.proofs.StepLemmas.{false-true, used-of, view-unused, view-used}
use Rattle.btree_owned_walk.proofs.BackLemmas.{GoesToLast, goes-back-on, goes-back-start, goes-back-used, last-gone, last-leaf}
use Rattle.btree_owned_walk.proofs.back.last_node.Goals as goal

pub loop-child-init : goal.loop-child-init
loop-child-init g c = subst (GoesToLast (node_map c.args.tree.now) c.args.from c.args.from) (sym c.new-levels.ensures) (goes-back-start (node_map c.args.tree.now) c.args.from c.requires)

pub node-node-requires : goal.node-node-requires
node-node-requires g c =
    let u = goes-back-used (node_map c.args.tree.now) c.args.from c.loop-child.id c.loop-child.levels.count c.loop-child.invariant in
    (c.tell_fits.ensures, used-of c.args.tree.now.nodes c.loop-child.id u.0 u.1)

pub returns-in_default-clause-last : goal.returns-in_default-clause-last
returns-in_default-clause-last g c = record {
  node = view_of c.node-node.result.now;
  here = ap (option_map view_of) c.node-node.ensures.value;
  bare = last-leaf (node_map c.args.tree.now) (view_of c.node-node.result.now)
      (ap (slice_get (children_of (view_of c.node-node.result.now))) (sym c.item_count.ensures.value) ∙ sym c.child_id_opt.ensures ∙ c.in_default.is);
}

pub returns-then-not-has_node-clause-last : goal.returns-then-not-has_node-clause-last
returns-then-not-has_node-clause-last g c = record {
  node = view_of c.node-node.result.now;
  here = ap (option_map view_of) c.node-node.ensures.value;
  bare = last-gone (node_map c.args.tree.now) (view_of c.node-node.result.now) c.in-Some.child
      (ap (slice_get (children_of (view_of c.node-node.result.now))) (sym c.item_count.ensures.value) ∙ sym c.child_id_opt.ensures ∙ c.in-Some.is)
      (view-unused c.args.tree.now.nodes c.in-Some.child (λ u. absurd (false-true (c.if-not-has_node.ensures.1 u))));
}

pub loop-child-preserved : goal.loop-child-preserved
loop-child-preserved g c =
    let w = view-used c.args.tree.now.nodes c.in-Some.child (c.if-not-has_node.ensures.0 refl) in
    subst (GoesToLast (node_map c.args.tree.now) c.args.from c.in-Some.child) (omega (arith, c.tick.ensures))
    (goes-back-on (node_map c.args.tree.now) c.args.from c.loop-child.id c.loop-child.levels.count c.loop-child.invariant
    (view_of c.node-node.result.now) (ap (option_map view_of) c.node-node.ensures.value) c.in-Some.child
    (ap (slice_get (children_of (view_of c.node-node.result.now))) (sym c.item_count.ensures.value) ∙ sym c.child_id_opt.ensures ∙ c.in-Some.is) w.0 w.1)
