use Rattle.btree_range_map.proofs.Common.{pairs_of}
use Rattle.btree_range_map.proofs.QueryLemmas.{around-maximal}
use Rattle.btree_range_map.proofs.map.RangeMap.get_range.Goals as goal

pub returns-clause-maximal : goal.returns-clause-maximal
returns-clause-maximal g c =
    rw (← c.self.view_is) (around-maximal (pairs_of c.self.inside.map) c.args.number c.range_around.result c.self.invariant.0 c.range_around.ensures.around)
