use Rattle.btree_range_map.proofs.Common.{length, pairs_of}
use Rattle.btree_range_map.proofs.ClearLemmas.{IsClearing}
use Rattle.btree_range_map.proofs.edits.clear_from.Given as goal

abbrev pub invariant-loop-at : goal.invariant-loop-at
invariant-loop-at g l = IsClearing l.initial.map l.map l.at l.start l.end

abbrev pub decreases-loop-at : goal.decreases-loop-at
decreases-loop-at g l = length (pairs_of l.map)
