use Rattle.std.proofs.Common.{◌≤◌, ◌-◌, arith}
use Rattle.btree_range_map.specs.Counts.{count_between}
use Rattle.btree_range_map.specs.Ranges.{has_value, range_now}
use Rattle.btree_range_map.proofs.CountLemmas.{counts-none, left-rest, skips-on, takes-most, takes-on}
use Rattle.btree_range_set.specs.CountLaws.{count-most}
use Rattle.btree_range_map.proofs.counts.count_in.Goals as goal

pub loop-first-init : goal.loop-first-init
loop-first-init g c = (record { low = 0; runs = c.requires }, omega arith)

pub overflow_add-count : goal.overflow_add-count
overflow_add-count g c =
    let l = c.loop-first in
    let total = count_between c.args.ranges c.args.start c.args.end in
    let lt = rw (c.max-low.ensures, c.min-high.ensures) at c.if-low-high.true in
    let most : total ≤ c.args.end - c.args.start = count-most (has_value c.args.ranges) c.args.start (c.args.end - c.args.start) in
    let some = takes-most total l.count l.from c.args.end l.rest c.next.new.self (range_now (c.in-Some.first, c.in-Some.span)) c.in-Some.ensures.steps l.invariant.1 l.invariant.0 lt in
    omega (arith, most, some, c.max-low.ensures, c.min-high.ensures, c.ranges.end.fits)

pub loop-first-preserved-then-low-high : goal.loop-first-preserved-then-low-high
loop-first-preserved-then-low-high g c =
    let l = c.loop-first in
    let total = count_between c.args.ranges c.args.start c.args.end in
    let lt = rw (c.max-low.ensures, c.min-high.ensures) at c.if-low-high.true in (
      record { low = _; runs = left-rest l.rest c.next.new.self (range_now (c.in-Some.first, c.in-Some.span)) c.in-Some.ensures.steps l.invariant.0 },
      rw (c.max-low.ensures, c.min-high.ensures) (takes-on total l.count l.from c.args.end l.rest c.next.new.self (range_now (c.in-Some.first, c.in-Some.span)) c.in-Some.ensures.steps l.invariant.1 l.invariant.0 lt),
    )

pub loop-first-preserved : goal.loop-first-preserved
loop-first-preserved g c =
    let l = c.loop-first in
    let total = count_between c.args.ranges c.args.start c.args.end in
    let none = rw (c.max-low.ensures, c.min-high.ensures) at c.if-low-high.false in (
      record { low = _; runs = left-rest l.rest c.next.new.self (range_now (c.in-Some.first, c.in-Some.span)) c.in-Some.ensures.steps l.invariant.0 },
      skips-on total l.count l.from c.args.end l.rest c.next.new.self (range_now (c.in-Some.first, c.in-Some.span)) c.in-Some.ensures.steps l.invariant.1 (omega (arith, none)),
    )

pub returns : goal.returns
returns g c = let l = c.loop-first in counts-none (count_between c.args.ranges c.args.start c.args.end) l.count l.from c.args.end l.rest c.in_default.ensures.steps.0 l.invariant.1
