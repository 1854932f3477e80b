use Rattle.btree_range_map.proofs.Common.{Some, pairs_of}
use Rattle.btree_range_map.proofs.QueryLemmas.{first-lowest}
use Rattle.btree_range_map.proofs.map.RangeMap.first.Goals as goal

pub returns-in-Some-clause-lowest : goal.returns-in-Some-clause-lowest
returns-in-Some-clause-lowest g c = rw (← c.self.view_is) (first-lowest (pairs_of c.self.inside.map) (Some (c.in-Some.start.now, c.in-Some.span)) c.self.invariant.0 c.in-Some.ensures)
