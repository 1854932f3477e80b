use Rattle.std.proofs.Common.{refl}
use Rattle.std.specs.Option.{option_copied}
use Rattle.btree_range_map.specs.Ranges.{AreRuns, range_now}
use Rattle.btree_range_map.proofs.RunLoop.{run-fails, run-follows, runs-begin, runs-end}
use Rattle.btree_range_map.proofs.maps.are_runs.Goals as goal

pub loop-start-init : goal.loop-start-init
loop-start-init g c = runs-begin c.args.ranges

pub returns-then-not-may_follow : goal.returns-then-not-may_follow
returns-then-not-may_follow g c =
    let l = c.loop-start in
    run-fails (AreRuns c.args.ranges) (option_copied l.past) l.rest c.next.new.self (range_now (c.in-Some.start, c.in-Some.span)) c.in-Some.ensures.steps l.invariant
    (rw c.if-not-may_follow.true at c.may_follow.ensures.1)

pub loop-start-preserved : goal.loop-start-preserved
loop-start-preserved g c =
    let l = c.loop-start in
    run-follows (AreRuns c.args.ranges) (option_copied l.past) l.rest c.next.new.self (range_now (c.in-Some.start, c.in-Some.span)) c.in-Some.ensures.steps l.invariant
    (c.if-not-may_follow.ensures.0 refl)

pub returns : goal.returns
returns g c = let l = c.loop-start in runs-end (AreRuns c.args.ranges) (option_copied l.past) l.rest c.in_default.ensures.steps.0 l.invariant
