use Rattle.btree_range_set.specs.FitLaws.{AreLeft}
use Rattle.btree_range_map.specs.Ranges.{has_value}
use Rattle.btree_range_map.proofs.map.RangeMap.first_fit.Given as goal

-- what is in the gaps that are left is free, and each free run is in them
abbrev pub invariant-loop-first : goal.invariant-loop-first
invariant-loop-first g l = AreLeft (has_value l.fn.self.ranges) l.fn.start l.fn.end l.fn.size l.gaps
