use Rattle.std.proofs.Common.{◌≡◌, ◌+◌}
use Rattle.btree_range_set.specs.Counts.{count_between}
use Rattle.btree_range_set.proofs.CountLemmas.{AreRunsLeft}
use Rattle.btree_range_set.proofs.counts.count_in.Given as goal

-- those that were counted, and those that are left from `from` on, are all
abbrev pub invariant-loop-first : goal.invariant-loop-first
invariant-loop-first g l =
    AreRunsLeft l.rest
    × (l.count + count_between l.rest l.from l.end ≡ count_between l.fn.ranges l.fn.start l.end)
