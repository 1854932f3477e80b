use Rattle.btree_range_set.proofs.Common.{pairs_of}
use Rattle.btree_range_set.proofs.QueryLemmas.{first-lowest}
use Rattle.btree_range_set.proofs.set.RangeSet.first.Goals as goal

pub returns-in-Some-clause-lowest : goal.returns-in-Some-clause-lowest
returns-in-Some-clause-lowest g c = rw (← c.self.view_is) (first-lowest (pairs_of c.self.inside.map) _ c.self.invariant c.in-Some.ensures)
