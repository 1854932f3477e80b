use Rattle.btree_item.proofs.Common.{sym}
use Rattle.btree_item.proofs.SomesLemmas.{shown-length}
use Rattle.btree_item.proofs.slots.Slots.len.Goals as goal

pub returns-clause-value : goal.returns-clause-value
returns-clause-value g c = sym (shown-length _ _ _ c.args.self.now c.self.view_is c.self.invariant)

pub returns-clause-fits : goal.returns-clause-fits
returns-clause-fits g c = c.self.invariant.1
