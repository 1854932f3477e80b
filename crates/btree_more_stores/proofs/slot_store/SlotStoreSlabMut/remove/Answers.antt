use Rattle.std.proofs.Common.{arith, refl}
use Rattle.btree_store.specs.SlotLaws.{content-empty, get-content, used_within}
use Rattle.btree_more_stores.proofs.FilledLemmas.{filled-remove, held-one}
use Rattle.btree_more_stores.proofs.TableLemmas.{table-used}
use Rattle.btree_more_stores.proofs.slot_store.SlotStoreSlabMut.remove.Goals as goal

pub take_out-value-requires-clause-inside : goal.take_out-value-requires-clause-inside
take_out-value-requires-clause-inside g c =
    let inside = used_within c.self.inside.slots.items c.args.id (rw (← c.self.view_is) at c.requires) in
    omega (arith, inside)

pub take_out-value-requires-clause-used : goal.take_out-value-requires-clause-used
take_out-value-requires-clause-used g c = rw (← c.self.view_is, get-content _ _) at c.requires

pub push_reserved-requires : goal.push_reserved-requires
push_reserved-requires g c =
    let room = held-one _ _ _ _ _ _ c.take_out-value.ensures.value c.self.invariant in
    omega (arith, room)

pub overflow_sub-self : goal.overflow_sub-self
overflow_sub-self g c = table-used _ _ _ _ _ _ _ c.take_out-value.ensures.value c.self.invariant.table

pub invariant_of-self : goal.invariant_of-self
invariant_of-self g c =
    rw (c.take_out-value.ensures.emptied, c.push_reserved.ensures.items, c.push_reserved.ensures.capacity) (filled-remove _ _ _ _ _ _ c.take_out-value.ensures.value c.self.invariant)

pub returns-clause-value : goal.returns-clause-value
returns-clause-value g c = rw (← c.self.view_is, get-content) c.take_out-value.ensures.value

pub returns-clause-removed : goal.returns-clause-removed
returns-clause-removed g c =
    let inside = used_within c.self.inside.slots.items c.args.id (rw (← c.self.view_is) at c.requires) in
    rw (c.take_out-value.ensures.emptied, ← c.self.view_is) (content-empty c.self.inside.slots.items c.args.id inside)

pub returns-clause-uncounted : goal.returns-clause-uncounted
returns-clause-uncounted g c = rw (← c.self.view_is) refl
