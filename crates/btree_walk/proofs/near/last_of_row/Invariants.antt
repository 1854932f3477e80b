use Rattle.btree_walk.proofs.Common.{drop, length, view_of, branches_of, bound_key, branch_now, branch_past}
use Rattle.btree_walk.proofs.NearLemmas.{IsCutting}
use Rattle.btree_walk.proofs.near.last_of_row.Given as goal

abbrev pub invariant-loop-item : goal.invariant-loop-item
invariant-loop-item g l = IsCutting (branch_past g.K.Ord.cmp (bound_key l.end)) (drop l.passed (branches_of (view_of l.node))) (branch_now l.last) (drop l.index (branches_of (view_of l.node)))

abbrev pub decreases-loop-item : goal.decreases-loop-item
decreases-loop-item g l = length (drop l.index (branches_of (view_of l.node)))
