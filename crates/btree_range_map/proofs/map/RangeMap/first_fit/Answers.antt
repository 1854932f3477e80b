use Rattle.btree_range_map.proofs.Common.{ℕ, List, subst, arith}
use Rattle.btree_range_set.specs.FitLaws.{AreLeft, all-left, fit-found, none-left, rest-left}
use Rattle.btree_range_map.specs.Ranges.{has_value}
use Rattle.btree_range_map.proofs.map.RangeMap.first_fit.Goals as goal

pub loop-first-init : goal.loop-first-init
loop-first-init g c = all-left (has_value c.args.self.now.ranges) c.args.start c.args.end c.args.size c.gaps-gaps.result c.gaps-gaps.ensures

pub returns-then-size-saturating_sub-clause-first : goal.returns-then-size-saturating_sub-clause-first
returns-then-size-saturating_sub-clause-first g c =
    let taken = has_value c.args.self.now.ranges in
    let left = subst (λ (gaps : List (ℕ × ℕ)). AreLeft taken c.args.start c.args.end c.args.size gaps) c.in-Some.ensures.steps c.loop-first.invariant in
    fit-found taken c.args.start c.args.end c.args.size (c.in-Some.first, c.in-Some.past) c.next.new.self left (omega (arith, c.if-size-eq0.false))
    (omega (arith, c.if-size-saturating_sub.true, c.saturating_sub.ensures))

pub loop-first-preserved : goal.loop-first-preserved
loop-first-preserved g c =
    let taken = has_value c.args.self.now.ranges in
    let left = subst (λ (gaps : List (ℕ × ℕ)). AreLeft taken c.args.start c.args.end c.args.size gaps) c.in-Some.ensures.steps c.loop-first.invariant in
    rest-left taken c.args.start c.args.end c.args.size (c.in-Some.first, c.in-Some.past) c.next.new.self left
    (omega (arith, c.if-size-saturating_sub.false, c.saturating_sub.ensures))

pub returns-clause-none : goal.returns-clause-none
returns-clause-none g c =
    let taken = has_value c.args.self.now.ranges in
    none-left taken c.args.start c.args.end c.args.size (omega (arith, c.if-size-eq0.false))
    (subst (λ (gaps : List (ℕ × ℕ)). AreLeft taken c.args.start c.args.end c.args.size gaps) c.in_default.ensures.steps.0 c.loop-first.invariant)
