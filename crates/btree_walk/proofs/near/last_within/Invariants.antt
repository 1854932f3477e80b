use Rattle.btree_walk.proofs.Common.{bound_key, branch_now, pair_now}
use Rattle.btree_walk.specs.Rows.{remaining_of}
use Rattle.btree_walk.proofs.NearRowLemmas.{IsClimbing}
use Rattle.btree_walk.proofs.near.last_within.Given as goal

abbrev pub invariant-loop-level : goal.invariant-loop-level
invariant-loop-level g l = IsClimbing g.met.K.Ord.total (bound_key l.end) l.tree (remaining_of l.tree l.leaf l.passed l.ancestors) l.ancestors (pair_now l.last) l.level (branch_now l.branch)

abbrev pub decreases-loop-level : goal.decreases-loop-level
decreases-loop-level g l = l.level
