use Rattle.btree_range_set.proofs.Common.{◌∙◌, ℕ}
use Rattle.btree_range_set.proofs.SeriesLemmas.{grows-more, removes-more}
use Rattle.btree_range_set.proofs.set.RangeSet.remove_each.Goals as goal

pub loop-start-preserved : goal.loop-start-preserved
loop-start-preserved g c =
    let l = c.loop-start in
    let next = c.in-Some.ensures.goes.on l.invariant.0.1 in
    let given : ℕ × ℕ = (c.in-Some.start, c.in-Some.end) in
    let one = c.in_ok-remove.ensures in (
      (next.0, next.1),
      one.uncounted ∙ l.invariant.1,
      grows-more c.args.self.now l.self c.remove.new.self l.invariant.1 l.invariant.2 one.bounded,
      λ outcome new rest later. l.invariant.3 outcome new rest
          (removes-more g.I.Iterator.next_gives l.self c.remove.new.self l.source c.next.new.self given c.in-Some.ensures.steps one.without outcome new rest later),
    )
