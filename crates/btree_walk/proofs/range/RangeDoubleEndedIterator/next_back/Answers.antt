use Rattle.btree_walk.proofs.Common.{Some, false, ap, arith, length, refl, subst, length_push, pairs_of, from_first, left_until, pair_now}
use Rattle.btree_walk.specs.Ranges.{IsBehind, behind_in}
use Rattle.btree_walk.specs.Rows.{remaining_after}
use Rattle.btree_walk.proofs.RangeLemmas.{gives-back, none-ahead, none-back, passes-back}
use Rattle.btree_walk.proofs.range.RangeDoubleEndedIterator.next_back.Goals as goal

pub tell_fits-requires : goal.tell_fits-requires
tell_fits-requires g c = c.self.invariant.0

pub last_left-requires : goal.last_left-requires
last_left-requires g c =
    let it = c.self.inside in
    (omega arith, (c.self.invariant.3, subst (λ o. IsBehind (pairs_of it.tree.now) (pair_now o) (behind_in it.tree.now it.back)) c.in-Some-last.is c.self.invariant.4))

pub invariant_of-self-then-is_gt : goal.invariant_of-self-then-is_gt
invariant_of-self-then-is_gt g c = (c.self.invariant.0, c.self.invariant.1, none-ahead, c.last_left.ensures.back, c.in-Some-last_left.ensures.behind)

pub returns-in_default-last_left-clause-steps : goal.returns-in_default-last_left-clause-steps
returns-in_default-last_left-clause-steps g c =
    let none = none-back g.met.K.Ord.total c.tell_well_formed.ensures.well_formed.ascends c.self.invariant.2 (ap pair_now c.in-Some.is) (ap pair_now c.in-Some-last.is) c.self.inside.is_left
    (pair_now c.last_left.result) c.last_left.ensures.same (ap pair_now c.in_default-last_left.is) in
    rw (← c.self.view_is) (none, refl)

pub returns-then-is_gt-clause-steps : goal.returns-then-is_gt-clause-steps
returns-then-is_gt-clause-steps g c =
    let none = passes-back g.met.K.Ord.total c.tell_well_formed.ensures.well_formed.ascends c.self.invariant.2 (ap pair_now c.in-Some.is) (ap pair_now c.in-Some-last.is) c.self.inside.is_left
    (pair_now c.last_left.result) c.last_left.ensures.same (c.in-Some-last_left.last.0.now, c.in-Some-last_left.last.1.now) (ap pair_now c.in-Some-last_left.is) (let compared = c.cmp.ensures in let asked = c.is_gt.ensures in let yes = c.if-is_gt.true in cc) in
    rw (← c.self.view_is) (none, refl)

pub returns-clause-steps : goal.returns-clause-steps
returns-clause-steps g c =
    let it = c.self.inside in
    rw (← c.self.view_is)
    (gives-back g.met.K.Ord.total c.tell_well_formed.ensures.well_formed.ascends c.self.invariant.2 (ap pair_now c.in-Some.is) (ap pair_now c.in-Some-last.is) it.is_left
    (pair_now c.last_left.result) c.last_left.ensures.same (c.in-Some-last_left.last.0.now, c.in-Some-last_left.last.1.now) (ap pair_now c.in-Some-last_left.is) (behind_in it.tree.now c.last_left.new.back) c.last_left.ensures.behind (let compared = c.cmp.ensures in let asked = c.is_gt.ensures in let no = c.if-is_gt.false in cc))

pub returns-clause-goes : goal.returns-clause-goes
returns-clause-goes g c =
    let it = c.self.inside in
    let given = gives-back g.met.K.Ord.total c.tell_well_formed.ensures.well_formed.ascends c.self.invariant.2 (ap pair_now c.in-Some.is) (ap pair_now c.in-Some-last.is) it.is_left
    (pair_now c.last_left.result) c.last_left.ensures.same (c.in-Some-last_left.last.0.now, c.in-Some-last_left.last.1.now) (ap pair_now c.in-Some-last_left.is) (behind_in it.tree.now c.last_left.new.back) c.last_left.ensures.behind (let compared = c.cmp.ensures in let asked = c.is_gt.ensures in let no = c.if-is_gt.false in cc) in
    let fewer = ap length given in
    let one = length_push (left_until g.K.Ord.cmp (from_first (pair_now it.first) (remaining_after it.tree.now it.run it.ancestors)) (Some (c.in-Some-last_left.last.0.now, c.in-Some-last_left.last.1.now)) false) (c.in-Some-last_left.last.0.now, c.in-Some-last_left.last.1.now) in
    rw (← c.self.view_is) record { on = λ finite. (tt, tt, omega arith); keeps = tt; rests = λ finite. tt }
