use Rattle.btree_item.proofs.Common.{common_steps, arith, rules}
use Rattle.btree_item.proofs.slots_iter.SlotsIterIterator.next.Goals as goal
use Rattle.btree_item.proofs.IterLemmas.{slot_steps}

pub next-requires : goal.next-requires
next-requires g c = search rules steps 200000

pub invariant_of-self : goal.invariant_of-self
invariant_of-self g c = search rules steps 200000

pub returns-in_default-clause-steps : goal.returns-in_default-clause-steps
returns-in_default-clause-steps g c = grind (arith, common_steps) steps 300000

pub returns-in_default-clause-goes : goal.returns-in_default-clause-goes
returns-in_default-clause-goes g c = search rules steps 200000

pub as_ref-requires : goal.as_ref-requires
as_ref-requires g c κs = search rules steps 200000

pub returns-clause-goes : goal.returns-clause-goes
returns-clause-goes g c = grind (arith, common_steps) steps 300000

pub invariant_of-self-2 : goal.invariant_of-self-2
invariant_of-self-2 g c = grind (arith, slot_steps) steps 300000

pub returns-clause-steps : goal.returns-clause-steps
returns-clause-steps g c = grind (arith, slot_steps) steps 300000
