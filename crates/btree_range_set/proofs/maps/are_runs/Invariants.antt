use Rattle.std.proofs.Common.{◌↔◌}
use Rattle.btree_range_set.specs.Places.{low_after}
use Rattle.btree_range_set.specs.Ranges.{AreRuns, AreRunsFrom}
use Rattle.btree_range_set.proofs.maps.are_runs.Given as goal

-- they are runs exactly if those that are left are, after the one that was read last
abbrev pub invariant-loop-start : goal.invariant-loop-start
invariant-loop-start g l = AreRuns l.initial.rest ↔ AreRunsFrom (low_after l.past) l.rest
