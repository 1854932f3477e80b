use Rattle.btree_range_set.proofs.Common.{◌≡◌}
use Rattle.btree_range_set.specs.Gaps.{gaps_from}
use Rattle.btree_range_set.proofs.gaps.next_gap.Given as goal

-- no gap was passed
abbrev pub invariant-loop-first : goal.invariant-loop-first
invariant-loop-first g l = gaps_from l.initial.start l.end l.initial.ranges ≡ gaps_from l.start l.end l.ranges
