use Rattle.btree_set.proofs.Common.{◌∙◌, Some, ap, arith, drop, length, subst, sym, difference}
use Rattle.btree_set.proofs.TurnLemmas.{Steps, along, empty, goes, headed, lacking-equal, lacking-greater, lacking-less, lacking-no-first, lacking-no-second, taken}
use Rattle.btree_set.proofs.difference.DifferenceIterator.next.Goals as goal

pub loop-left-init : goal.loop-left-init
loop-left-init g c = ap (λ left. difference g.T.Ord.cmp left.0 left.1) c.self.view_is

pub returns-in_default-clause-steps : goal.returns-in_default-clause-steps
returns-in_default-clause-steps g c = (sym c.loop-left.invariant ∙ lacking-no-first g.met.T.Ord.total c.loop-left.self-inside.first c.loop-left.self-inside.second (empty c.loop-left.self-inside.first c.head.result c.head.ensures.next c.in_default.is), lacking-no-first g.met.T.Ord.total c.loop-left.self-inside.first c.loop-left.self-inside.second (empty c.loop-left.self-inside.first c.head.result c.head.ensures.next c.in_default.is))

pub returns-in_default-head-clause-steps : goal.returns-in_default-head-clause-steps
returns-in_default-head-clause-steps g c =
    subst (λ l. Steps l c.next.result (difference g.T.Ord.cmp c.next.new.self c.loop-left.self-inside.second)) c.loop-left.invariant (along (difference g.T.Ord.cmp c.loop-left.self-inside.first c.loop-left.self-inside.second) (difference g.T.Ord.cmp c.next.new.self c.loop-left.self-inside.second) c.loop-left.self-inside.first c.next.new.self c.next.result (lacking-no-second g.met.T.Ord.total c.loop-left.self-inside.first c.loop-left.self-inside.second (empty c.loop-left.self-inside.second c.head-in-loop-left.result c.head-in-loop-left.ensures.next c.in_default-head.is)) (lacking-no-second g.met.T.Ord.total c.next.new.self c.loop-left.self-inside.second (empty c.loop-left.self-inside.second c.head-in-loop-left.result c.head-in-loop-left.ensures.next c.in_default-head.is)) (taken c.loop-left.self-inside.first c.next.new.self c.next.result c.next.ensures.first c.next.ensures.rest))

pub returns-in_default-head-clause-goes : goal.returns-in_default-head-clause-goes
returns-in_default-head-clause-goes g c =
    goes (λ left. difference g.T.Ord.cmp left.0 left.1) c.args.self.now (c.next.new.self, c.loop-left.self-inside.second) c.next.result
    (subst (λ l. Steps l c.next.result (difference g.T.Ord.cmp c.next.new.self c.loop-left.self-inside.second)) c.loop-left.invariant (along (difference g.T.Ord.cmp c.loop-left.self-inside.first c.loop-left.self-inside.second) (difference g.T.Ord.cmp c.next.new.self c.loop-left.self-inside.second) c.loop-left.self-inside.first c.next.new.self c.next.result (lacking-no-second g.met.T.Ord.total c.loop-left.self-inside.first c.loop-left.self-inside.second (empty c.loop-left.self-inside.second c.head-in-loop-left.result c.head-in-loop-left.ensures.next c.in_default-head.is)) (lacking-no-second g.met.T.Ord.total c.next.new.self c.loop-left.self-inside.second (empty c.loop-left.self-inside.second c.head-in-loop-left.result c.head-in-loop-left.ensures.next c.in_default-head.is)) (taken c.loop-left.self-inside.first c.next.new.self c.next.result c.next.ensures.first c.next.ensures.rest)))

pub returns-in-Less-clause-steps : goal.returns-in-Less-clause-steps
returns-in-Less-clause-steps g c =
    subst (λ l. Steps l (Some c.in-Some.left) (difference g.T.Ord.cmp c.advance.new.self c.loop-left.self-inside.second)) c.loop-left.invariant (rw c.advance.ensures (lacking-less g.met.T.Ord.total c.loop-left.self-inside.first c.loop-left.self-inside.second (drop 1 c.loop-left.self-inside.first) (drop 1 c.loop-left.self-inside.second) c.in-Some.left.now c.in-Some-head.right.now (headed c.loop-left.self-inside.first c.head.result c.in-Some.left c.head.ensures.next c.in-Some.is) (headed c.loop-left.self-inside.second c.head-in-loop-left.result c.in-Some-head.right c.head-in-loop-left.ensures.next c.in-Some-head.is) c.head.ensures.ascends c.head-in-loop-left.ensures.ascends (let compared = c.cmp.ensures in let is = c.in-Less.is in cc)))

pub returns-in-Less-clause-goes : goal.returns-in-Less-clause-goes
returns-in-Less-clause-goes g c =
    goes (λ left. difference g.T.Ord.cmp left.0 left.1) c.args.self.now (c.advance.new.self, c.loop-left.self-inside.second) (Some c.in-Some.left)
    (subst (λ l. Steps l (Some c.in-Some.left) (difference g.T.Ord.cmp c.advance.new.self c.loop-left.self-inside.second)) c.loop-left.invariant (rw c.advance.ensures (lacking-less g.met.T.Ord.total c.loop-left.self-inside.first c.loop-left.self-inside.second (drop 1 c.loop-left.self-inside.first) (drop 1 c.loop-left.self-inside.second) c.in-Some.left.now c.in-Some-head.right.now (headed c.loop-left.self-inside.first c.head.result c.in-Some.left c.head.ensures.next c.in-Some.is) (headed c.loop-left.self-inside.second c.head-in-loop-left.result c.in-Some-head.right c.head-in-loop-left.ensures.next c.in-Some-head.is) c.head.ensures.ascends c.head-in-loop-left.ensures.ascends (let compared = c.cmp.ensures in let is = c.in-Less.is in cc))))

pub loop-left-preserved-in-Equal : goal.loop-left-preserved-in-Equal
loop-left-preserved-in-Equal g c = rw (c.advance-in-Equal.ensures, c.advance-in-Equal-2.ensures) (sym (lacking-equal g.met.T.Ord.total c.loop-left.self-inside.first c.loop-left.self-inside.second (drop 1 c.loop-left.self-inside.first) (drop 1 c.loop-left.self-inside.second) c.in-Some.left.now c.in-Some-head.right.now (headed c.loop-left.self-inside.first c.head.result c.in-Some.left c.head.ensures.next c.in-Some.is) (headed c.loop-left.self-inside.second c.head-in-loop-left.result c.in-Some-head.right c.head-in-loop-left.ensures.next c.in-Some-head.is) c.head.ensures.ascends c.head-in-loop-left.ensures.ascends (let compared = c.cmp.ensures in let is = c.in-Equal.is in cc)) ∙ c.loop-left.invariant)

pub loop-left-smaller-in-Equal : goal.loop-left-smaller-in-Equal
loop-left-smaller-in-Equal g c = rw (c.advance-in-Equal.ensures, c.advance-in-Equal-2.ensures) (let fewer = ap length (headed c.loop-left.self-inside.first c.head.result c.in-Some.left c.head.ensures.next c.in-Some.is) in let less = ap length (headed c.loop-left.self-inside.second c.head-in-loop-left.result c.in-Some-head.right c.head-in-loop-left.ensures.next c.in-Some-head.is) in omega arith)

pub loop-left-preserved : goal.loop-left-preserved
loop-left-preserved g c = rw c.advance-in-Greater.ensures (sym (lacking-greater g.met.T.Ord.total c.loop-left.self-inside.first c.loop-left.self-inside.second (drop 1 c.loop-left.self-inside.first) (drop 1 c.loop-left.self-inside.second) c.in-Some.left.now c.in-Some-head.right.now (headed c.loop-left.self-inside.first c.head.result c.in-Some.left c.head.ensures.next c.in-Some.is) (headed c.loop-left.self-inside.second c.head-in-loop-left.result c.in-Some-head.right c.head-in-loop-left.ensures.next c.in-Some-head.is) c.head.ensures.ascends c.head-in-loop-left.ensures.ascends (let compared = c.cmp.ensures in let is = c.in-Greater.is in cc)) ∙ c.loop-left.invariant)

pub loop-left-smaller : goal.loop-left-smaller
loop-left-smaller g c = rw c.advance-in-Greater.ensures (let fewer = ap length (headed c.loop-left.self-inside.second c.head-in-loop-left.result c.in-Some-head.right c.head-in-loop-left.ensures.next c.in-Some-head.is) in omega arith)
