use Rattle.std.proofs.Common.{arith, refl}
use Rattle.btree_store.specs.SlotLaws.{content-empty, get-content, used_within as content_within}
use Rattle.btree_more_stores.proofs.TableLemmas.{table-remove, table-used, used_within}
use Rattle.btree_more_stores.proofs.fixed_slab.FixedSlabSlabMut.remove.Goals as goal

pub take_out-value-requires : goal.take_out-value-requires
take_out-value-requires g c =
    let used = rw (← c.self.view_is) at c.requires in
    (let fits = c.well_formed in omega arith, (content_within _ _ used, rw (get-content _ _) at used))

pub push-requires : goal.push-requires
push-requires g c =
    let held = table-used _ _ _ _ _ _ _ c.take_out-value.ensures.value c.self.invariant in
    (let fits = c.well_formed in omega arith, omega (arith, held, c.self.invariant.total, c.self.invariant.within))

pub overflow_sub-self : goal.overflow_sub-self
overflow_sub-self g c = table-used _ _ _ _ _ _ _ c.take_out-value.ensures.value c.self.invariant

pub invariant_of-self : goal.invariant_of-self
invariant_of-self g c = rw (c.take_out-value.ensures.emptied, c.push.ensures.items) (table-remove _ _ _ _ _ _ _ c.take_out-value.ensures.value c.self.invariant)

pub returns-clause-value : goal.returns-clause-value
returns-clause-value g c = rw (← c.self.view_is, get-content) c.take_out-value.ensures.value

pub returns-clause-removed : goal.returns-clause-removed
returns-clause-removed g c = rw (c.take_out-value.ensures.emptied, ← c.self.view_is) (content-empty c.self.inside.slots.items c.args.id (used_within 0 c.self.inside.slots.items c.args.id _ c.take_out-value.ensures.value))

pub returns-clause-uncounted : goal.returns-clause-uncounted
returns-clause-uncounted g c = rw (← c.self.view_is) refl
