use Rattle.btree_map.proofs.Common.{refl}
use Rattle.btree_map.proofs.map.BTreeMap.get_mut.Goals as goal

pub returns : goal.returns
returns g c =
    rw (← c.self.view_is)
    (refl, record { writes_back = tt; value = c.get_mut.ensures.value; exchanged = c.get_mut.ensures.exchanged })
