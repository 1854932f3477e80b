use Rattle.std.proofs.Common.{refl}
use Rattle.btree_range_set.proofs.RunLoop.{run-fails, run-follows, runs-end}
use Rattle.btree_range_set.specs.Places.{low_after}
use Rattle.btree_range_set.specs.Ranges.{AreRuns}
use Rattle.btree_range_set.proofs.maps.are_runs.Goals as goal

pub loop-start-init : goal.loop-start-init
loop-start-init g c = (λ h. h, λ h. h)

pub returns-then-not-may_follow : goal.returns-then-not-may_follow
returns-then-not-may_follow g c =
    let l = c.loop-start in
    run-fails (AreRuns c.args.ranges) (low_after l.past) l.rest c.next.new.self (c.in-Some.start, c.in-Some.end) c.in-Some.ensures.steps l.invariant (rw c.if-not-may_follow.true at c.may_follow.ensures.1)

pub loop-start-preserved : goal.loop-start-preserved
loop-start-preserved g c =
    let l = c.loop-start in
    let follows = c.if-not-may_follow.ensures.0 refl in
    run-follows (AreRuns c.args.ranges) (low_after l.past) l.rest c.next.new.self (c.in-Some.start, c.in-Some.end) c.in-Some.ensures.steps l.invariant follows.0 follows.1

pub returns : goal.returns
returns g c = let l = c.loop-start in runs-end (AreRuns c.args.ranges) (low_after l.past) l.rest c.in_default.ensures.steps.0 l.invariant
