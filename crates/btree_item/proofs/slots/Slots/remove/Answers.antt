use Rattle.btree_item.proofs.Common.{arith}
use Rattle.btree_item.proofs.SomesLemmas.{slot_edits, shown-length}
use Rattle.btree_item.proofs.slots.Slots.remove.Goals as goal

pub unwrap-requires : goal.unwrap-requires
unwrap-requires g c = grind (arith, slot_edits) steps 1500000

pub invariant_of-self : goal.invariant_of-self
invariant_of-self g c = grind (arith, slot_edits) steps 1500000

pub returns-clause-answer : goal.returns-clause-answer
returns-clause-answer g c = grind (arith, slot_edits) steps 1500000

pub returns-clause-after : goal.returns-clause-after
returns-clause-after g c = grind (arith, slot_edits) steps 1500000

pub remove_slot-slot-requires : goal.remove_slot-slot-requires
remove_slot-slot-requires g c =
    let held = shown-length _ _ _ c.args.self.now c.self.view_is c.self.invariant in
    (let fits = c.well_formed in omega arith, (omega (arith, held, c.requires), omega (arith, c.self.invariant.0, c.self.invariant.1)))

pub overflow_sub-self : goal.overflow_sub-self
overflow_sub-self g c =
    let held = shown-length _ _ _ c.args.self.now c.self.view_is c.self.invariant in
    omega (arith, held, c.requires)
