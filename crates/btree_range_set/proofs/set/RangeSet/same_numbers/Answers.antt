use Rattle.btree_range_set.proofs.Common.{pairs_of}
use Rattle.btree_range_set.proofs.RangeLaws.{equal-numbers}
use Rattle.btree_range_set.proofs.set.RangeSet.same_numbers.Goals as goal

pub returns-clause-numbers : goal.returns-clause-numbers
returns-clause-numbers g c =
    rw (c.same_items.ensures, ← c.self.view_is, ← c.other.view_is) (equal-numbers (pairs_of c.self.inside.map) (pairs_of c.other.inside.map) c.self.invariant c.other.invariant)
