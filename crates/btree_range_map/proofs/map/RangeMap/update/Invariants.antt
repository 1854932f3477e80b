use Rattle.btree_range_map.proofs.Common.{◌≡◌, GrowsWithinLimit}
use Rattle.std.proofs.Common.{◌-◌}
use Rattle.std.specs.Fn.{CalledAt}
use Rattle.btree_range_map.proofs.UpdateLemmas.{IsUpdatedBelow}
use Rattle.btree_range_map.proofs.map.RangeMap.update.Given as goal

-- the parts below `from` have been updated
abbrev pub invariant-loop-first : goal.invariant-loop-first
invariant-loop-first g l =
    IsUpdatedBelow (CalledAt g.F.FnMut) l.fn.action l.fn.self.ranges l.fn.start l.fn.end l.from l.action l.self.ranges
    × (l.self.kept ≡ l.fn.self.kept)
    × GrowsWithinLimit l.fn.self l.self
    × goal.F-IsAlwaysCallable g l.action

abbrev pub decreases-loop-first : goal.decreases-loop-first
decreases-loop-first g l = l.fn.end - l.from
