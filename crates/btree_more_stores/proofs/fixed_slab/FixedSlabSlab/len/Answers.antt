use Rattle.std.proofs.Common.{sym, ◌∙◌}
use Rattle.btree_store.specs.SlotLaws.{len-content}
use Rattle.btree_more_stores.proofs.TableLemmas.{table-holds}
use Rattle.btree_more_stores.proofs.fixed_slab.FixedSlabSlab.len.Goals as goal

pub returns-clause-len : goal.returns-clause-len
returns-clause-len g c = rw (← c.self.view_is) (c.self.invariant.counted ∙ sym (len-content c.self.inside.slots.items))

pub returns-clause-can_hold : goal.returns-clause-can_hold
returns-clause-can_hold g c = rw (← c.self.view_is) (table-holds _ _ _ _ _ c.self.invariant)
