use Rattle.btree_range_map.proofs.Common.{◌∙◌, ◌≡◌, Some, sym, subst, GoesThrough}
use Rattle.btree_range_map.proofs.SeriesLemmas.{assigns-more, assigns-none, counts-last, grows-more, grows-same, refused-ranges}
use Rattle.btree_range_map.proofs.map.RangeMap.extend.Goals as goal

pub loop-start-preserved : goal.loop-start-preserved
loop-start-preserved g c =
    let l = c.loop-start in
    let next = c.in-Some.ensures.goes.on l.invariant.0.1 in
    let one = c.in-Ok.ensures in (
      (next.0, next.1),
      one.uncounted ∙ l.invariant.1,
      grows-more c.args.self.now l.self c.insert.new.self l.invariant.1 l.invariant.2 one.bounded,
      λ outcome new rest later. l.invariant.3 outcome new rest
          (assigns-more g.I.Iterator.next_gives l.self c.insert.new.self l.source c.next.new.self (c.in-Some.start, c.in-Some.span) c.in-Some.ensures.steps one.assigned outcome new rest later),
    )

pub returns-in-Err-clause-bounded : goal.returns-in-Err-clause-bounded
returns-in-Err-clause-bounded g c =
    grows-same c.args.self.now c.loop-start.self c.insert.new.self c.loop-start.invariant.2 (refused-ranges _ c.loop-start.self c.insert.new.self _ _ _ c.in-Err.ensures.cause)

pub returns-in-Err-clause-joins_none : goal.returns-in-Err-clause-joins_none
returns-in-Err-clause-joins_none g c =
    let given = c.in-Err.ensures.returned in
    rw (refused-ranges _ c.loop-start.self c.insert.new.self _ _ _ c.in-Err.ensures.cause, given.0, given.1, given.2) c.in-Err.ensures.joins_none

pub returns-in-Err-clause-cause : goal.returns-in-Err-clause-cause
returns-in-Err-clause-cause g c =
    let given = c.in-Err.ensures.returned in
    rw (given.0, given.1) (counts-last _ c.args.self.now c.loop-start.self c.insert.new.self _ _ _ c.loop-start.invariant.1 c.in-Err.ensures.cause)

pub returns-in-Err-clause-stopped : goal.returns-in-Err-clause-stopped
returns-in-Err-clause-stopped g c =
    let l = c.loop-start in
    let given = c.in-Err.ensures.returned in
    let same : Some (c.in-Err.refused.key, c.in-Err.refused.value) ≡ Some (c.in-Some.start, c.in-Some.span) =
    λ i. Some (given.0 i, record { end = given.1 i; value = given.2 i }) in
    subst (λ o. GoesThrough g.I.Iterator.next_gives c.args.self.now c.args.source.now o c.insert.new.self c.next.new.self) (sym same)
    (l.invariant.3 (Some (c.in-Some.start, c.in-Some.span)) c.insert.new.self c.next.new.self
    (assigns-none g.I.Iterator.next_gives l.self c.insert.new.self l.source c.next.new.self (Some (c.in-Some.start, c.in-Some.span)) c.in-Some.ensures.steps
    (refused-ranges _ l.self c.insert.new.self _ _ _ c.in-Err.ensures.cause)))
