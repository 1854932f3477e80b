use Rattle.btree_raw.proofs.Common.{refl, subst, node_map, used-view}
use Rattle.btree_raw.specs.NodeSteps.{IsThere}
use Rattle.btree_raw.proofs.SingleNodeLemmas.{reparents-one, reparents-no}
use Rattle.btree_raw.proofs.sibling_steps.move_child.Goals as goal

pub set_parent-requires-clause-used : goal.set_parent-requires-clause-used
set_parent-requires-clause-used g c = used-view c.args.tree.now.nodes c.in-Some.id (subst (λ o. IsThere (node_map c.args.tree.now) o) c.in-Some.is c.requires.there)

pub returns-in-Some : goal.returns-in-Some
returns-in-Some g c = record {
  nodes = reparents-one (node_map c.args.tree.now) (node_map c.set_parent.new.tree) c.args.parent c.args.child c.in-Some.id c.in-Some.is c.set_parent.ensures.nodes;
  rest = c.set_parent.ensures.rest;
}

pub returns-in-None : goal.returns-in-None
returns-in-None g c = record { nodes = reparents-no (node_map c.args.tree.now) c.args.parent c.args.child c.in-None.is; rest = record { rest = refl } }

pub set_parent-requires-clause-number : goal.set_parent-requires-clause-number
set_parent-requires-clause-number g c = c.requires.number
