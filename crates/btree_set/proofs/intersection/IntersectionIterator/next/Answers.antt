use Rattle.btree_set.proofs.Common.{◌∙◌, Some, ap, arith, drop, length, subst, sym, intersection}
use Rattle.btree_set.proofs.TurnLemmas.{Steps, empty, goes, headed, shared-equal, shared-greater, shared-less, shared-no-first, shared-no-second}
use Rattle.btree_set.proofs.intersection.IntersectionIterator.next.Goals as goal

pub loop-left-init : goal.loop-left-init
loop-left-init g c = ap (λ left. intersection g.T.Ord.cmp left.0 left.1) c.self.view_is

pub returns-in_default-clause-steps : goal.returns-in_default-clause-steps
returns-in_default-clause-steps g c = (sym c.loop-left.invariant ∙ shared-no-first g.met.T.Ord.total c.loop-left.self-inside.first c.loop-left.self-inside.second (empty c.loop-left.self-inside.first c.head.result c.head.ensures.next c.in_default.is), shared-no-first g.met.T.Ord.total c.loop-left.self-inside.first c.loop-left.self-inside.second (empty c.loop-left.self-inside.first c.head.result c.head.ensures.next c.in_default.is))

pub returns-in_default-head-clause-steps : goal.returns-in_default-head-clause-steps
returns-in_default-head-clause-steps g c = (sym c.loop-left.invariant ∙ shared-no-second g.met.T.Ord.total c.loop-left.self-inside.first c.loop-left.self-inside.second (empty c.loop-left.self-inside.second c.head-in-loop-left.result c.head-in-loop-left.ensures.next c.in_default-head.is), shared-no-second g.met.T.Ord.total c.loop-left.self-inside.first c.loop-left.self-inside.second (empty c.loop-left.self-inside.second c.head-in-loop-left.result c.head-in-loop-left.ensures.next c.in_default-head.is))

pub loop-left-preserved-in-Less : goal.loop-left-preserved-in-Less
loop-left-preserved-in-Less g c = rw c.advance.ensures (sym (shared-less g.met.T.Ord.total c.loop-left.self-inside.first c.loop-left.self-inside.second (drop 1 c.loop-left.self-inside.first) (drop 1 c.loop-left.self-inside.second) c.in-Some.left.now c.in-Some-head.right.now (headed c.loop-left.self-inside.first c.head.result c.in-Some.left c.head.ensures.next c.in-Some.is) (headed c.loop-left.self-inside.second c.head-in-loop-left.result c.in-Some-head.right c.head-in-loop-left.ensures.next c.in-Some-head.is) c.head.ensures.ascends c.head-in-loop-left.ensures.ascends (let compared = c.cmp.ensures in let is = c.in-Less.is in cc)) ∙ c.loop-left.invariant)

pub loop-left-smaller-in-Less : goal.loop-left-smaller-in-Less
loop-left-smaller-in-Less g c = rw c.advance.ensures (let fewer = ap length (headed c.loop-left.self-inside.first c.head.result c.in-Some.left c.head.ensures.next c.in-Some.is) in omega arith)

pub loop-left-preserved : goal.loop-left-preserved
loop-left-preserved g c = rw c.advance-in-Greater.ensures (sym (shared-greater g.met.T.Ord.total c.loop-left.self-inside.first c.loop-left.self-inside.second (drop 1 c.loop-left.self-inside.first) (drop 1 c.loop-left.self-inside.second) c.in-Some.left.now c.in-Some-head.right.now (headed c.loop-left.self-inside.first c.head.result c.in-Some.left c.head.ensures.next c.in-Some.is) (headed c.loop-left.self-inside.second c.head-in-loop-left.result c.in-Some-head.right c.head-in-loop-left.ensures.next c.in-Some-head.is) c.head.ensures.ascends c.head-in-loop-left.ensures.ascends (let compared = c.cmp.ensures in let is = c.in-Greater.is in cc)) ∙ c.loop-left.invariant)

pub loop-left-smaller : goal.loop-left-smaller
loop-left-smaller g c = rw c.advance-in-Greater.ensures (let fewer = ap length (headed c.loop-left.self-inside.second c.head-in-loop-left.result c.in-Some-head.right c.head-in-loop-left.ensures.next c.in-Some-head.is) in omega arith)

pub returns-in-Equal-clause-steps : goal.returns-in-Equal-clause-steps
returns-in-Equal-clause-steps g c =
    subst (λ l. Steps l (Some c.in-Some.left) (intersection g.T.Ord.cmp c.advance-in-Equal.new.self c.advance-in-Equal-2.new.self)) c.loop-left.invariant (rw (c.advance-in-Equal.ensures, c.advance-in-Equal-2.ensures) (shared-equal g.met.T.Ord.total c.loop-left.self-inside.first c.loop-left.self-inside.second (drop 1 c.loop-left.self-inside.first) (drop 1 c.loop-left.self-inside.second) c.in-Some.left.now c.in-Some-head.right.now (headed c.loop-left.self-inside.first c.head.result c.in-Some.left c.head.ensures.next c.in-Some.is) (headed c.loop-left.self-inside.second c.head-in-loop-left.result c.in-Some-head.right c.head-in-loop-left.ensures.next c.in-Some-head.is) c.head.ensures.ascends c.head-in-loop-left.ensures.ascends (let compared = c.cmp.ensures in let is = c.in-Equal.is in cc)))

pub returns-in-Equal-clause-goes : goal.returns-in-Equal-clause-goes
returns-in-Equal-clause-goes g c =
    goes (λ left. intersection g.T.Ord.cmp left.0 left.1) c.args.self.now (c.advance-in-Equal.new.self, c.advance-in-Equal-2.new.self) (Some c.in-Some.left)
    (subst (λ l. Steps l (Some c.in-Some.left) (intersection g.T.Ord.cmp c.advance-in-Equal.new.self c.advance-in-Equal-2.new.self)) c.loop-left.invariant (rw (c.advance-in-Equal.ensures, c.advance-in-Equal-2.ensures) (shared-equal g.met.T.Ord.total c.loop-left.self-inside.first c.loop-left.self-inside.second (drop 1 c.loop-left.self-inside.first) (drop 1 c.loop-left.self-inside.second) c.in-Some.left.now c.in-Some-head.right.now (headed c.loop-left.self-inside.first c.head.result c.in-Some.left c.head.ensures.next c.in-Some.is) (headed c.loop-left.self-inside.second c.head-in-loop-left.result c.in-Some-head.right c.head-in-loop-left.ensures.next c.in-Some-head.is) c.head.ensures.ascends c.head-in-loop-left.ensures.ascends (let compared = c.cmp.ensures in let is = c.in-Equal.is in cc))))
