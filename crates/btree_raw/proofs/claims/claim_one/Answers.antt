use Rattle.btree_raw.proofs.ResultLemmas.{some-ok, none-err}
use Rattle.btree_raw.proofs.Common.{rules}
use Rattle.btree_raw.proofs.claims.claim_one.Goals as goal

pub tell_fits-requires : goal.tell_fits-requires
tell_fits-requires g c κs = search rules steps 200000

-- `ok-requires-room-E-Destruct` is left out of this print (no verdict changes): its front end refused it

pub empty_leaf-requires : goal.empty_leaf-requires
empty_leaf-requires g c = c.tell_fits.ensures

pub store_node-requires : goal.store_node-requires
store_node-requires g c = c.tell_fits.ensures

-- `ok-requires-room-E-Destruct` is left out of this print (no verdict changes): its front end refused it

pub returns-clause-number : goal.returns-clause-number
returns-clause-number g c = rw c.ok.ensures.value (some-ok _ c.store_node.result c.store_node.ensures.number)

pub returns-clause-unused : goal.returns-clause-unused
returns-clause-unused g c = rw c.ok.ensures.value (some-ok _ c.store_node.result c.store_node.ensures.unused)

pub returns-clause-claimed : goal.returns-clause-claimed
returns-clause-claimed g c = rw (c.ok.ensures.value, ← c.empty_leaf.ensures) (some-ok _ c.store_node.result c.store_node.ensures.stored)

pub returns-clause-refused : goal.returns-clause-refused
returns-clause-refused g c = rw c.ok.ensures.value (none-err _ c.store_node.result c.store_node.ensures.refused)

pub returns-clause-may_refuse : goal.returns-clause-may_refuse
returns-clause-may_refuse g c = rw c.ok.ensures.value (none-err _ c.store_node.result c.store_node.ensures.may_refuse)

pub returns-clause-can_hold : goal.returns-clause-can_hold
returns-clause-can_hold g c = rw c.ok.ensures.value (some-ok _ c.store_node.result c.store_node.ensures.can_hold)
