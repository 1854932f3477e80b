use Rattle.btree_range_set.proofs.Common.{◌∙◌, refl, arith}
use Rattle.btree_range_set.proofs.GapLemmas.{at-end, gap-given, gap-last, gap-none, gap-skipped}
use Rattle.btree_range_set.proofs.gaps.next_gap.Goals as goal

pub loop-first-init : goal.loop-first-init
loop-first-init g c = refl

pub returns-then-from-first : goal.returns-then-from-first
returns-then-from-first g c =
    rw c.loop-first.invariant (gap-given c.loop-first.ranges c.next.new.self (c.in-Some.first, c.in-Some.last) c.loop-first.start c.args.end c.in-Some.ensures.steps (omega (arith, c.if-from-first.true)))

pub loop-first-preserved : goal.loop-first-preserved
loop-first-preserved g c =
    c.loop-first.invariant ∙ gap-skipped c.loop-first.ranges c.next.new.self (c.in-Some.first, c.in-Some.last) c.loop-first.start c.args.end c.in-Some.ensures.steps (omega (arith, c.if-from-first.false))

pub returns-then-from-end : goal.returns-then-from-end
returns-then-from-end g c =
    let none = c.in_default.ensures.steps in
    rw c.loop-first.invariant (gap-last c.loop-first.ranges c.next.new.self c.loop-first.start c.args.end none.0 none.1 (omega (arith, c.if-from-end.true)))

pub returns : goal.returns
returns g c =
    let none = c.in_default.ensures.steps in (
      rw c.loop-first.invariant (gap-none c.loop-first.ranges c.next.new.self c.loop-first.start c.args.end none.0 none.1 (omega (arith, c.if-from-end.false))),
      at-end c.loop-first.ranges c.next.new.self c.loop-first.start c.args.end none.0 none.1,
    )
