use Rattle.btree_range_map.proofs.Common.{◌∙◌, refl, arith}
use Rattle.std.proofs.Common.{of_calls}
use Rattle.std.specs.Fn.{CalledAt}
use Rattle.btree_range_map.proofs.SeriesLemmas.{counts-last, grows-more, grows-same, refused-ranges}
use Rattle.btree_range_map.proofs.UpdateLemmas.{updated-end, updated-more, updated-start, updated-until}
use Rattle.btree_range_map.proofs.map.RangeMap.update.Goals as goal

pub loop-first-init : goal.loop-first-init
loop-first-init g c =
    (updated-start (CalledAt g.F.FnMut) c.args.action.now c.args.self.now.ranges c.args.start c.args.end, refl, (λ more. absurd (omega (arith, more))), c.requires)

pub loop-first-preserved : goal.loop-first-preserved
loop-first-preserved g c =
    let l = c.loop-first in
    let one = c.in-Ok.ensures in (
      updated-more (CalledAt g.F.FnMut) c.args.action.now c.args.self.now.ranges c.args.start c.args.end l.from l.action l.self.ranges l.invariant.0 c.first_part.ensures.runs
          (c.in-Some.first, record { end = c.in-Some.last; value = c.in-Some.value.now }) c.in-Some.ensures.some c.action-given.result c.action-given.new.self (record { shown = c.in-Some.value; shows = refl; called = c.action-given.ensures }) c.insert.new.self.ranges one.assigned,
      one.uncounted ∙ l.invariant.1,
      grows-more c.args.self.now l.self c.insert.new.self l.invariant.1 l.invariant.2 one.bounded,
      search of_calls,
    )

pub returns-in-Err-clause-stopped : goal.returns-in-Err-clause-stopped
returns-in-Err-clause-stopped g c =
    let l = c.loop-first in
    let refused = c.in-Err.ensures in
    updated-until (CalledAt g.F.FnMut) c.args.action.now c.args.self.now.ranges c.args.start c.args.end l.from l.action l.self.ranges l.invariant.0 c.first_part.ensures.runs
    (c.in-Some.first, record { end = c.in-Some.last; value = c.in-Some.value.now }) c.in-Some.ensures.some c.action-given.result c.action-given.new.self (record { shown = c.in-Some.value; shows = refl; called = c.action-given.ensures }) c.insert.new.self.ranges c.in-Err.refused
    (refused-ranges _ l.self c.insert.new.self _ _ _ refused.cause) refused.returned.0 refused.returned.1 refused.returned.2

pub returns-in-Err-clause-inside : goal.returns-in-Err-clause-inside
returns-in-Err-clause-inside g c =
    let part = c.in-Some.ensures.some in
    rw (c.in-Err.ensures.returned.0, c.in-Err.ensures.returned.1) (omega (arith, c.loop-first.invariant.0.low, part.low), part.some, part.high)

pub returns-in-Err-clause-joins_none : goal.returns-in-Err-clause-joins_none
returns-in-Err-clause-joins_none g c =
    let given = c.in-Err.ensures.returned in
    rw (refused-ranges _ c.loop-first.self c.insert.new.self _ _ _ c.in-Err.ensures.cause, given.0, given.1, given.2) c.in-Err.ensures.joins_none

pub returns-in-Err-clause-cause : goal.returns-in-Err-clause-cause
returns-in-Err-clause-cause g c =
    let given = c.in-Err.ensures.returned in
    rw (given.0, given.1) (counts-last _ c.args.self.now c.loop-first.self c.insert.new.self _ _ _ c.loop-first.invariant.1 c.in-Err.ensures.cause)

pub returns-in-Err-clause-bounded : goal.returns-in-Err-clause-bounded
returns-in-Err-clause-bounded g c =
    grows-same c.args.self.now c.loop-first.self c.insert.new.self c.loop-first.invariant.2 (refused-ranges _ c.loop-first.self c.insert.new.self _ _ _ c.in-Err.ensures.cause)

pub returns-clause-updated : goal.returns-clause-updated
returns-clause-updated g c =
    let l = c.loop-first in
    updated-end (CalledAt g.F.FnMut) c.args.action.now c.args.self.now.ranges c.args.start c.args.end l.from l.action l.self.ranges l.invariant.0 c.first_part.ensures.runs c.in_default.ensures.none

pub returns-clause-runs : goal.returns-clause-runs
returns-clause-runs g c = c.loop-first.invariant.0.runs c.first_part.ensures.runs

pub returns-in-Err-clause-runs : goal.returns-in-Err-clause-runs
returns-in-Err-clause-runs g c = c.loop-first.invariant.0.runs c.first_part.ensures.runs
