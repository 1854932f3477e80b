use Rattle.btree_range_set.proofs.Common.{IfErr-weaker, on_ok_weaker}
use Rattle.btree_range_set.proofs.TwoSetLemmas.{removes-all, removes-below, removes-run}
use Rattle.btree_range_set.proofs.set.RangeSet.difference_with.Goals as goal

pub returns-clause-without : goal.returns-clause-without
returns-clause-without g c =
    on_ok_weaker c.remove_each.result (removes-all c.args.other.now.ranges c.args.self.now c.remove_each.new.self c.remove_each.new.source)
    (rw c.iter.ensures.ranges at c.remove_each.ensures.without)

pub returns-clause-returned : goal.returns-clause-returned
returns-clause-returned g c =
    IfErr-weaker c.remove_each.result _ _ (removes-run c.args.other.now.ranges c.args.self.now c.remove_each.new.self c.remove_each.new.source c.iter.ensures.runs)
    (rw c.iter.ensures.ranges at c.remove_each.ensures.stopped)

pub returns-clause-stopped : goal.returns-clause-stopped
returns-clause-stopped g c =
    IfErr-weaker c.remove_each.result _ _ (removes-below c.args.other.now.ranges c.args.self.now c.remove_each.new.self c.remove_each.new.source c.iter.ensures.runs)
    (rw c.iter.ensures.ranges at c.remove_each.ensures.stopped)
