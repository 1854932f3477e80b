use Rattle.btree_item.proofs.Common.{common_steps, arith, rules, sym}
use Rattle.std.specs.Slice.Iter.{iter_rest}
use Rattle.btree_item.proofs.slots_iter.SlotsIterDoubleEndedIterator.next_back.Goals as goal
use Rattle.btree_item.proofs.IterLemmas.{last-goes, slot_steps_back}

pub next_back-requires : goal.next_back-requires
next_back-requires g c = search rules steps 200000

pub invariant_of-self : goal.invariant_of-self
invariant_of-self g c = search rules steps 200000

pub returns-in_default-clause-steps : goal.returns-in_default-clause-steps
returns-in_default-clause-steps g c = grind (arith, common_steps) steps 300000

pub returns-in_default-clause-goes : goal.returns-in_default-clause-goes
returns-in_default-clause-goes g c = search rules steps 200000

pub as_ref-requires : goal.as_ref-requires
as_ref-requires g c κs = search rules steps 200000

pub returns-clause-goes : goal.returns-clause-goes
returns-clause-goes g c = rw (sym c.self.view_is) (last-goes (λ _. tt) (iter_rest c.self.inside.slots) (iter_rest c.next_back.new.self) c.in-Some.slot.now c.as_ref.result c.self.invariant c.in-Some.ensures.steps c.as_ref.ensures.value)

pub invariant_of-self-2 : goal.invariant_of-self-2
invariant_of-self-2 g c = grind (arith, slot_steps_back) steps 300000

pub returns-clause-steps : goal.returns-clause-steps
returns-clause-steps g c = grind (arith, slot_steps_back) steps 300000
