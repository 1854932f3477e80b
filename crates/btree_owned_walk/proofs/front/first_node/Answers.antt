use Rattle.btree_owned_walk.proofs.Common.{ap, sym, subst, option_map, refl, arith, ◌∙◌, view_of, node_map}
use Rattle.btree_owned_walk.proofs.StepLemmas.{GoesToFirst, bare-gone, false-true, goes-on, goes-start, goes-used, used-of, view-unused, view-used}
use Rattle.btree_owned_walk.proofs.front.first_node.Goals as goal

pub loop-child-init : goal.loop-child-init
loop-child-init g c = subst (GoesToFirst (node_map c.args.tree.now) c.args.from c.args.from) (sym c.new-levels.ensures) (goes-start (node_map c.args.tree.now) c.args.from c.requires)

pub node-requires : goal.node-requires
node-requires g c =
    let u = goes-used (node_map c.args.tree.now) c.args.from c.loop-child.id c.loop-child.levels.count c.loop-child.invariant in
    (c.tell_fits.ensures, used-of c.args.tree.now.nodes c.loop-child.id u.0 u.1)

pub returns-then-not-has_node-clause-first : goal.returns-then-not-has_node-clause-first
returns-then-not-has_node-clause-first g c = record {
  node = view_of c.node.result.now;
  here = ap (option_map view_of) c.node.ensures.value;
  bare = bare-gone (node_map c.args.tree.now) (view_of c.node.result.now) c.in-Some.child (sym c.child_id_opt.ensures ∙ c.in-Some.is)
      (view-unused c.args.tree.now.nodes c.in-Some.child (λ u. absurd (false-true (c.if-not-has_node.ensures.1 u))));
}

pub loop-child-preserved : goal.loop-child-preserved
loop-child-preserved g c =
    let w = view-used c.args.tree.now.nodes c.in-Some.child (c.if-not-has_node.ensures.0 refl) in
    subst (GoesToFirst (node_map c.args.tree.now) c.args.from c.in-Some.child) (omega (arith, c.tick.ensures))
    (goes-on (node_map c.args.tree.now) c.args.from c.loop-child.id c.loop-child.levels.count c.loop-child.invariant
    (view_of c.node.result.now) (ap (option_map view_of) c.node.ensures.value) c.in-Some.child (sym c.child_id_opt.ensures ∙ c.in-Some.is) w.0 w.1)
