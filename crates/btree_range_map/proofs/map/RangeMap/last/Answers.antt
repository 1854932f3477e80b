use Rattle.btree_range_map.proofs.Common.{Some, pairs_of}
use Rattle.btree_range_map.proofs.QueryLemmas.{last-highest}
use Rattle.btree_range_map.proofs.map.RangeMap.last.Goals as goal

pub returns-in-Some-clause-highest : goal.returns-in-Some-clause-highest
returns-in-Some-clause-highest g c = rw (← c.self.view_is) (last-highest (pairs_of c.self.inside.map) (Some (c.in-Some.start.now, c.in-Some.span)) c.self.invariant.0 c.in-Some.ensures)
