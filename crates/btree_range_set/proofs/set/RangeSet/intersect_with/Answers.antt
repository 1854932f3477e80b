use Rattle.btree_range_set.proofs.Common.{refl, IfErr-weaker, on_ok_weaker}
use Rattle.btree_range_set.proofs.QueryLemmas.{none-last}
use Rattle.btree_range_set.proofs.TwoSetLemmas.{both-refused, shares-all, shares-below, shares-gap}
use Rattle.btree_range_set.proofs.set.RangeSet.intersect_with.Goals as goal

pub returns-in-Some-clause-shared : goal.returns-in-Some-clause-shared
returns-in-Some-clause-shared g c =
    on_ok_weaker c.remove_each.result
    (shares-all c.args.other.now.ranges c.gaps.result c.in-Some.end c.gaps.ensures c.args.self.now c.remove_each.new.self c.remove_each.new.source c.in-Some.ensures.highest)
    c.remove_each.ensures.without

pub returns-in-Some-clause-returned : goal.returns-in-Some-clause-returned
returns-in-Some-clause-returned g c =
    both-refused c.remove_each.result _ _ _
    (λ r through cut. shares-gap c.args.other.now.ranges c.gaps.result c.in-Some.end c.gaps.ensures c.args.self.now c.remove_each.new.self c.remove_each.new.source r through c.in-Some.ensures.highest cut)
    c.remove_each.ensures.stopped c.remove_each.ensures.cuts_one

pub returns-in-Some-clause-stopped : goal.returns-in-Some-clause-stopped
returns-in-Some-clause-stopped g c =
    IfErr-weaker c.remove_each.result _ _
    (shares-below c.args.other.now.ranges c.gaps.result c.in-Some.end c.gaps.ensures c.args.self.now c.remove_each.new.self c.remove_each.new.source)
    c.remove_each.ensures.stopped

pub returns-in-None-clause-shared : goal.returns-in-None-clause-shared
returns-in-None-clause-shared g c = let none = none-last c.args.self.now.ranges c.in-None.ensures.listed in λ n. rw none refl
