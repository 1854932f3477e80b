use Rattle.btree_set.proofs.Common.{◌≡◌, ◌+◌, length, intersection}
use Rattle.btree_set.proofs.intersection.IntersectionIterator.next.Given as goal

abbrev pub invariant-loop-left : goal.invariant-loop-left
invariant-loop-left g l = intersection g.T.Ord.cmp l.self-inside.first l.self-inside.second ≡ intersection g.T.Ord.cmp l.fn.self.0 l.fn.self.1

abbrev pub decreases-loop-left : goal.decreases-loop-left
decreases-loop-left g l = length l.self-inside.first + length l.self-inside.second
