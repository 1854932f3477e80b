use Rattle.btree_range_map.proofs.Common.{pairs_of}
use Rattle.btree_range_map.proofs.RangeLaws.{equal-values}
use Rattle.btree_range_map.proofs.map.RangeMap.same_values.Goals as goal

pub returns-clause-values : goal.returns-clause-values
returns-clause-values g c =
    rw (c.same_items.ensures, ← c.self.view_is, ← c.other.view_is)
    (equal-values _ c.self.invariant.1 (pairs_of c.self.inside.map) (pairs_of c.other.inside.map) c.self.invariant.0 c.other.invariant.0)
