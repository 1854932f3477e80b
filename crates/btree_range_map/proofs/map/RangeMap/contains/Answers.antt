use Rattle.btree_range_map.proofs.QueryLemmas.{some-copied}
use Rattle.btree_range_map.proofs.map.RangeMap.contains.Goals as goal

pub returns : goal.returns
returns g c = some-copied c.get.result _ _ c.is_some.ensures c.get.ensures
