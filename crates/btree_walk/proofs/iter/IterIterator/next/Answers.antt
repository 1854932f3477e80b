use Rattle.btree_walk.proofs.Common.{◌++◌, length, ap, ◌∙◌, arith, fits-leaf, remaining_above, views, rows_of}
use Rattle.std.specs.FinMap as map
use Rattle.btree_walk.proofs.EndLemmas.{ends-first, first-left, none-ahead}
use Rattle.btree_walk.proofs.IterLemmas.{next-above}
use Rattle.btree_walk.proofs.iter.IterIterator.next.Goals as goal

pub tell_fits-requires : goal.tell_fits-requires
tell_fits-requires g c = c.self.invariant.0

pub invariant_of-self : goal.invariant_of-self
invariant_of-self g c = (
  c.self.invariant.0,
  c.self.invariant.1,
  c.self.invariant.2,
  ends-first _ _ _ c.self.invariant.3 (omega (arith, c.if-self-eq0.false)) _ _
      (ap (λ l. l ++ remaining_above (views c.self.inside.tree.now.nodes) (map.len c.self.inside.tree.now.nodes) (rows_of c.self.inside.ancestors)) c.in-Some.ensures),
)

pub returns-in-Some-clause-steps : goal.returns-in-Some-clause-steps
returns-in-Some-clause-steps g c =
    rw (← c.self.view_is)
    (first-left _ _ _ c.self.invariant.3 (omega (arith, c.if-self-eq0.false)) _ _
    (ap (λ l. l ++ remaining_above (views c.self.inside.tree.now.nodes) (map.len c.self.inside.tree.now.nodes) (rows_of c.self.inside.ancestors)) c.in-Some.ensures))

pub returns-in-Some-clause-goes : goal.returns-in-Some-clause-goes
returns-in-Some-clause-goes g c =
    let first = first-left _ _ _ c.self.invariant.3 (omega (arith, c.if-self-eq0.false)) _ _
    (ap (λ l. l ++ remaining_above (views c.self.inside.tree.now.nodes) (map.len c.self.inside.tree.now.nodes) (rows_of c.self.inside.ancestors)) c.in-Some.ensures) in
    let fewer = ap length first in
    rw (← c.self.view_is) record { on = λ finite. (tt, tt, omega arith); keeps = tt; rests = λ finite. tt }

pub run_of-self-inside-requires : goal.run_of-self-inside-requires
run_of-self-inside-requires g c = search fits-leaf

pub next_above-requires : goal.next_above-requires
next_above-requires g c = (omega arith, (search fits-leaf, c.self.invariant.1))

pub invariant_of-self-in-Some-next_above : goal.invariant_of-self-in-Some-next_above
invariant_of-self-in-Some-next_above g c = (
  c.self.invariant.0,
  c.in-Some-next_above.ensures.above,
  c.self.invariant.2,
  ends-first _ _ _ c.self.invariant.3 (omega (arith, c.if-self-eq0.false)) _ _
      (next-above _ _ _ _ _ _ c.in_default.ensures.0 c.in-Some-next_above.ensures.left c.run_of-self-inside.ensures),
)

pub unreachable-requires : goal.unreachable-requires
unreachable-requires g c =
    let none = none-ahead _ _ _ c.self.invariant.3
    (ap (λ l. l ++ remaining_above (views c.self.inside.tree.now.nodes) (map.len c.self.inside.tree.now.nodes) (rows_of c.self.inside.ancestors)) c.in_default.ensures.0
    ∙ c.in-None.ensures.left.0) in
    c.if-self-eq0.false none

pub returns-clause-steps : goal.returns-clause-steps
returns-clause-steps g c =
    rw (← c.self.view_is)
    (first-left _ _ _ c.self.invariant.3 (omega (arith, c.if-self-eq0.false)) _ _
    (next-above _ _ _ _ _ _ c.in_default.ensures.0 c.in-Some-next_above.ensures.left c.run_of-self-inside.ensures))

pub returns-clause-goes : goal.returns-clause-goes
returns-clause-goes g c =
    let first = first-left _ _ _ c.self.invariant.3 (omega (arith, c.if-self-eq0.false)) _ _
    (next-above _ _ _ _ _ _ c.in_default.ensures.0 c.in-Some-next_above.ensures.left c.run_of-self-inside.ensures) in
    let fewer = ap length first in
    rw (← c.self.view_is) record { on = λ finite. (tt, tt, omega arith); keeps = tt; rests = λ finite. tt }
