use Rattle.btree_raw.proofs.RawLemmas.{reparents, can-reparent_children}
use Rattle.btree_raw.proofs.StateLemmas.{inserted, nodes-of, then}
use Rattle.btree_raw.proofs.raw.RawBTree.allocate_node.Goals as goal
use Rattle.btree_raw.proofs.Common.{common_steps, arith, rules}

pub reparent_children-requires : goal.reparent_children-requires
reparent_children-requires g c = can-reparent_children c.args.self.now.nodes c.in-Ok.id c.args.node c.in-Ok.ensures.unused c.requires c.store_node.new.self.nodes (nodes-of c.in-Ok.ensures.stored)

pub returns-in-Ok-clause-allocated : goal.returns-in-Ok-clause-allocated
returns-in-Ok-clause-allocated g c = record {
  vacant = c.in-Ok.ensures.unused;
  adopted = reparents c.args.self.now.nodes c.in-Ok.id c.args.node c.in-Ok.ensures.unused c.requires c.store_node.new.self.nodes (nodes-of c.in-Ok.ensures.stored) c.reparent_children.new.tree.nodes c.reparent_children.ensures.nodes;
  rest = then (inserted c.in-Ok.id c.args.node c.in-Ok.ensures.stored) c.reparent_children.ensures.rest;
}

pub returns-in-Ok-clause-number : goal.returns-in-Ok-clause-number
returns-in-Ok-clause-number g c = grind (arith, common_steps) steps 300000

pub returns-in-Ok-clause-returned : goal.returns-in-Ok-clause-returned
returns-in-Ok-clause-returned g c = search rules steps 200000

pub returns-in-Ok-clause-unchanged : goal.returns-in-Ok-clause-unchanged
returns-in-Ok-clause-unchanged g c = search rules steps 200000

pub returns-in-Ok-clause-may_refuse : goal.returns-in-Ok-clause-may_refuse
returns-in-Ok-clause-may_refuse g c = search rules steps 200000

pub returns-in-Err-clause-allocated : goal.returns-in-Err-clause-allocated
returns-in-Err-clause-allocated g c = search rules steps 200000

pub returns-in-Err-clause-number : goal.returns-in-Err-clause-number
returns-in-Err-clause-number g c = search rules steps 200000

pub returns-in-Err-clause-returned : goal.returns-in-Err-clause-returned
returns-in-Err-clause-returned g c = grind (arith, common_steps) steps 300000

pub returns-in-Err-clause-unchanged : goal.returns-in-Err-clause-unchanged
returns-in-Err-clause-unchanged g c = grind (arith, common_steps) steps 300000

pub returns-in-Err-clause-may_refuse : goal.returns-in-Err-clause-may_refuse
returns-in-Err-clause-may_refuse g c = search rules steps 200000

pub store_node-requires : goal.store_node-requires
store_node-requires g c = assumption
