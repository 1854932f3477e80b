use Rattle.btree_walk.proofs.Common.{◌++◌, ◌-◌, length, list_under}
use Rattle.btree_walk.specs.Rows.{remaining_in_ancestors}
use Rattle.btree_walk.proofs.WalkLemmas.{ahead}
use Rattle.btree_walk.proofs.WayLemmas.{IsDown}
use Rattle.btree_walk.proofs.ancestors.descend.Given as goal

abbrev pub invariant-loop-leaf : goal.invariant-loop-leaf
invariant-loop-leaf g l = IsDown (ahead l.tree) (list_under l.tree l.fn.top ++ remaining_in_ancestors l.tree l.initial.ancestors) l.ancestors l.id

abbrev pub decreases-loop-leaf : goal.decreases-loop-leaf
decreases-loop-leaf g l = 32 - length l.ancestors
