use Rattle.std.proofs.Common.{◌↔◌}
use Rattle.std.specs.Option.{option_copied}
use Rattle.btree_range_map.specs.Ranges.{AreRuns}
use Rattle.btree_range_map.proofs.RunLoop.{AreRunsAfter}
use Rattle.btree_range_map.proofs.maps.are_runs.Given as goal

-- they are runs exactly if those that are left are, after the one that was read last
abbrev pub invariant-loop-start : goal.invariant-loop-start
invariant-loop-start g l = AreRuns l.initial.rest ↔ AreRunsAfter (option_copied l.past) l.rest
