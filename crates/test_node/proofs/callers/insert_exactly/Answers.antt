use Rattle.btree_more_stores.proofs.CapacityLaws.{refuses-exactly}
use Rattle.test_node.proofs.callers.insert_exactly.Goals as goal

pub returns : goal.returns
returns g c = refuses-exactly _ _ _ _ _ c.insert.ensures.unused c.insert.ensures.stored c.insert.ensures.can_hold c.insert.ensures.may_refuse
