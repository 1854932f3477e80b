use Rattle.btree_range_map.proofs.Common.{length, pairs_of}
use Rattle.btree_range_map.proofs.AbsorbLemmas.{IsAbsorbing}
use Rattle.btree_range_map.proofs.assign.absorb.Given as goal

abbrev pub invariant-loop-last : goal.invariant-loop-last
invariant-loop-last g l = IsAbsorbing l.initial.map l.map l.at l.start l.fn.span l.end

abbrev pub decreases-loop-last : goal.decreases-loop-last
decreases-loop-last g l = length (pairs_of l.map)
