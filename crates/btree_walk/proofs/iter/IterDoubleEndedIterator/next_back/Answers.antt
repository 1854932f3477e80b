use Rattle.btree_walk.proofs.Common.{arith}
use Rattle.btree_walk.proofs.EndLemmas.{ends-last, last-left, left-none, one-shorter}
use Rattle.btree_walk.proofs.iter.IterDoubleEndedIterator.next_back.Goals as goal

pub tell_fits-requires : goal.tell_fits-requires
tell_fits-requires g c = c.self.invariant.0

pub step_back-requires : goal.step_back-requires
step_back-requires g c = (omega arith, c.self.invariant.2)

pub invariant_of-self : goal.invariant_of-self
invariant_of-self g c = (
  c.self.invariant.0,
  c.self.invariant.1,
  c.step_back.ensures.back,
  ends-last _ _ _ c.self.invariant.3 (omega (arith, c.if-self-eq0.false)) _ _ c.in-Some.ensures.last,
)

pub returns-clause-steps : goal.returns-clause-steps
returns-clause-steps g c = rw (← c.self.view_is) (last-left _ _ _ c.self.invariant.3 (omega (arith, c.if-self-eq0.false)) _ _ c.in-Some.ensures.last)

pub returns-clause-goes : goal.returns-clause-goes
returns-clause-goes g c =
    let fewer = one-shorter _ _ _ c.self.invariant.3 (omega (arith, c.if-self-eq0.false)) _ _ c.in-Some.ensures.last in
    rw (← c.self.view_is) record { on = λ finite. (tt, tt, omega arith); keeps = tt; rests = λ finite. tt }

pub unreachable-requires : goal.unreachable-requires
unreachable-requires g c = c.if-self-eq0.false (left-none _ _ _ c.self.invariant.3 c.in-None.ensures.last.0)
