use Rattle.btree_range_set.specs.FitLaws.{AreLeft}
use Rattle.btree_range_set.specs.Ranges.{has_number}
use Rattle.btree_range_set.proofs.set.RangeSet.first_fit.Given as goal

-- what is in the gaps that are left is free, and each free run is in them
abbrev pub invariant-loop-first : goal.invariant-loop-first
invariant-loop-first g l = AreLeft (has_number l.fn.self.ranges) l.fn.start l.fn.end l.fn.size l.gaps
