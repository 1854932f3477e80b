use Rattle.btree_valid.proofs.Common.{◌-◌, option_copied, view_of, items_of}
use Rattle.btree_valid.proofs.NodeLemmas.{IsOnWay}
use Rattle.btree_valid.proofs.off_by_one.ascends_from.Given as goal

abbrev pub invariant-loop-item : goal.invariant-loop-item
invariant-loop-item g l = IsOnWay g.K.Ord.cmp (items_of (view_of l.fn.node)) (option_copied l.fn.min) l.index (option_copied l.last)

abbrev pub decreases-loop-item : goal.decreases-loop-item
decreases-loop-item g l = 9 - l.index
