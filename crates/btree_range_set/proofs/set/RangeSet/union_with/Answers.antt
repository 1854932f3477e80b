use Rattle.btree_range_set.proofs.Common.{IfErr-weaker, on_ok_weaker}
use Rattle.btree_range_set.proofs.TwoSetLemmas.{adds-all, adds-below, adds-run}
use Rattle.btree_range_set.proofs.set.RangeSet.union_with.Goals as goal

pub returns-clause-united : goal.returns-clause-united
returns-clause-united g c =
    on_ok_weaker c.extend.result (adds-all c.args.other.now.ranges c.args.self.now c.extend.new.self c.extend.new.source)
    (rw c.iter.ensures.ranges at c.extend.ensures.extended)

pub returns-clause-returned : goal.returns-clause-returned
returns-clause-returned g c =
    IfErr-weaker c.extend.result _ _ (adds-run c.args.other.now.ranges c.args.self.now c.extend.new.self c.extend.new.source c.iter.ensures.runs)
    (rw c.iter.ensures.ranges at c.extend.ensures.stopped)

pub returns-clause-stopped : goal.returns-clause-stopped
returns-clause-stopped g c =
    IfErr-weaker c.extend.result _ _ (adds-below c.args.other.now.ranges c.args.self.now c.extend.new.self c.extend.new.source c.iter.ensures.runs)
    (rw c.iter.ensures.ranges at c.extend.ensures.stopped)
