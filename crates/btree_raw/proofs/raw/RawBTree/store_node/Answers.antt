use Rattle.btree_raw.proofs.Common.{rules}
use Rattle.btree_raw.proofs.raw.RawBTree.store_node.Goals as goal
use Rattle.btree_raw.proofs.ResultLemmas.{err-both, ok-both}

pub invariant_of-self : goal.invariant_of-self
invariant_of-self g c = search rules steps 200000

pub returns-clause-number : goal.returns-clause-number
returns-clause-number g c = search rules steps 200000

pub returns-clause-returned : goal.returns-clause-returned
returns-clause-returned g c = search rules steps 200000

pub returns-clause-may_refuse : goal.returns-clause-may_refuse
returns-clause-may_refuse g c = search rules steps 200000

pub insert-requires : goal.insert-requires
insert-requires g c = assumption

pub returns-clause-unused : goal.returns-clause-unused
returns-clause-unused g c = rw (← c.self.view_is) c.insert.ensures.unused

pub returns-clause-stored : goal.returns-clause-stored
returns-clause-stored g c = rw (← c.self.view_is) (ok-both c.insert.result (λ id stored same. cc) c.insert.ensures.stored c.insert.ensures.uncounted)

pub returns-clause-can_hold : goal.returns-clause-can_hold
returns-clause-can_hold g c = c.insert.ensures.can_hold

pub returns-clause-refused : goal.returns-clause-refused
returns-clause-refused g c = rw (← c.self.view_is) (err-both c.insert.result (λ unchanged counted. cc) c.insert.ensures.unchanged c.insert.ensures.counted)
