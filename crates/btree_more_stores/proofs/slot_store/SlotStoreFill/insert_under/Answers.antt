use Rattle.std.proofs.lemmas.Grind.{common_steps}
use Rattle.std.proofs.Common.{arith}
use Rattle.btree_store.specs.SlotLaws.{get-content}
use Rattle.btree_more_stores.proofs.FilledLemmas.{content-push, free-past}
use Rattle.btree_more_stores.proofs.slot_store.SlotStoreFill.insert_under.Goals as goal

pub reserve-requires-clause-below : goal.reserve-requires-clause-below
reserve-requires-clause-below g c = omega (arith, c.self.invariant.table.total)

pub reserve-requires-clause-more : goal.reserve-requires-clause-more
reserve-requires-clause-more g c = omega (arith, c.if-id-len.false, c.len.ensures)

pub returns-clause-above : goal.returns-clause-above
returns-clause-above g c = rw (← c.self.view_is) (omega (arith, c.if-id-len.false, c.len.ensures))

pub returns-clause-unused : goal.returns-clause-unused
returns-clause-unused g c = rw (← c.self.view_is, get-content) (free-past c.self.inside.slots.items c.args.id (omega (arith, c.if-id-len.false, c.len.ensures)))

pub returns-clause-stored : goal.returns-clause-stored
returns-clause-stored g c =
    rw (c.push_reserved.ensures.items, ← c.self.view_is, ← c.reserve.ensures.slots, ← c.add_free.ensures.content)
    (content-push c.add_free.new.slots.items c.args.id (omega arith) c.args.value)

pub invariant_of-self : goal.invariant_of-self
invariant_of-self g c = grind (arith, common_steps) steps 300000

pub returns-then-is_err-clause-unchanged : goal.returns-then-is_err-clause-unchanged
returns-then-is_err-clause-unchanged g c = grind (arith, common_steps) steps 300000

pub returns-then-is_err-clause-stays : goal.returns-then-is_err-clause-stays
returns-then-is_err-clause-stays g c = grind (arith, common_steps) steps 300000

pub returns-then-is_err-clause-uncounted : goal.returns-then-is_err-clause-uncounted
returns-then-is_err-clause-uncounted g c = search

pub add_free-requires-clause-filled : goal.add_free-requires-clause-filled
add_free-requires-clause-filled g c = grind (arith, common_steps) steps 300000

pub add_free-requires-clause-slots_room : goal.add_free-requires-clause-slots_room
add_free-requires-clause-slots_room g c = grind (arith, common_steps) steps 300000

pub add_free-requires-clause-free_room : goal.add_free-requires-clause-free_room
add_free-requires-clause-free_room g c = grind (arith, common_steps) steps 300000

pub add_free-requires-clause-above : goal.add_free-requires-clause-above
add_free-requires-clause-above g c = grind (arith, common_steps) steps 300000

pub overflow_add-self : goal.overflow_add-self
overflow_add-self g c = omega arith

pub invariant_of-self-2 : goal.invariant_of-self-2
invariant_of-self-2 g c = grind (arith, common_steps) steps 1500000

pub returns-clause-reached : goal.returns-clause-reached
returns-clause-reached g c = omega arith

pub returns-clause-uncounted : goal.returns-clause-uncounted
returns-clause-uncounted g c = grind (arith, common_steps) steps 300000
