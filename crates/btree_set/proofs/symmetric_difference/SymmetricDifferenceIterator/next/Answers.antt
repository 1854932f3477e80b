use Rattle.btree_set.proofs.Common.{◌∙◌, Some, ap, arith, drop, length, subst, sym, symmetric_difference}
use Rattle.btree_set.proofs.TurnLemmas.{Steps, along, apart-equal, apart-greater, apart-less, apart-no-first, apart-no-second, empty, goes, headed, taken}
use Rattle.btree_set.proofs.symmetric_difference.SymmetricDifferenceIterator.next.Goals as goal

pub loop-left-init : goal.loop-left-init
loop-left-init g c = ap (λ left. symmetric_difference g.T.Ord.cmp left.0 left.1) c.self.view_is

pub returns-in_default-clause-steps : goal.returns-in_default-clause-steps
returns-in_default-clause-steps g c =
    subst (λ l. Steps l c.next.result (symmetric_difference g.T.Ord.cmp c.loop-left.self-inside.first c.next.new.self)) c.loop-left.invariant (along (symmetric_difference g.T.Ord.cmp c.loop-left.self-inside.first c.loop-left.self-inside.second) (symmetric_difference g.T.Ord.cmp c.loop-left.self-inside.first c.next.new.self) c.loop-left.self-inside.second c.next.new.self c.next.result (apart-no-first g.T.Ord.cmp c.loop-left.self-inside.first c.loop-left.self-inside.second (empty c.loop-left.self-inside.first c.head.result c.head.ensures.next c.in_default.is)) (apart-no-first g.T.Ord.cmp c.loop-left.self-inside.first c.next.new.self (empty c.loop-left.self-inside.first c.head.result c.head.ensures.next c.in_default.is)) (taken c.loop-left.self-inside.second c.next.new.self c.next.result c.next.ensures.first c.next.ensures.rest))

pub returns-in_default-clause-goes : goal.returns-in_default-clause-goes
returns-in_default-clause-goes g c =
    goes (λ left. symmetric_difference g.T.Ord.cmp left.0 left.1) c.args.self.now (c.loop-left.self-inside.first, c.next.new.self) c.next.result
    (subst (λ l. Steps l c.next.result (symmetric_difference g.T.Ord.cmp c.loop-left.self-inside.first c.next.new.self)) c.loop-left.invariant (along (symmetric_difference g.T.Ord.cmp c.loop-left.self-inside.first c.loop-left.self-inside.second) (symmetric_difference g.T.Ord.cmp c.loop-left.self-inside.first c.next.new.self) c.loop-left.self-inside.second c.next.new.self c.next.result (apart-no-first g.T.Ord.cmp c.loop-left.self-inside.first c.loop-left.self-inside.second (empty c.loop-left.self-inside.first c.head.result c.head.ensures.next c.in_default.is)) (apart-no-first g.T.Ord.cmp c.loop-left.self-inside.first c.next.new.self (empty c.loop-left.self-inside.first c.head.result c.head.ensures.next c.in_default.is)) (taken c.loop-left.self-inside.second c.next.new.self c.next.result c.next.ensures.first c.next.ensures.rest)))

pub returns-in_default-head-clause-steps : goal.returns-in_default-head-clause-steps
returns-in_default-head-clause-steps g c =
    subst (λ l. Steps l c.next-in_default-head.result (symmetric_difference g.T.Ord.cmp c.next-in_default-head.new.self c.loop-left.self-inside.second)) c.loop-left.invariant (along (symmetric_difference g.T.Ord.cmp c.loop-left.self-inside.first c.loop-left.self-inside.second) (symmetric_difference g.T.Ord.cmp c.next-in_default-head.new.self c.loop-left.self-inside.second) c.loop-left.self-inside.first c.next-in_default-head.new.self c.next-in_default-head.result (apart-no-second g.T.Ord.cmp c.loop-left.self-inside.first c.loop-left.self-inside.second (empty c.loop-left.self-inside.second c.head-in-loop-left.result c.head-in-loop-left.ensures.next c.in_default-head.is)) (apart-no-second g.T.Ord.cmp c.next-in_default-head.new.self c.loop-left.self-inside.second (empty c.loop-left.self-inside.second c.head-in-loop-left.result c.head-in-loop-left.ensures.next c.in_default-head.is)) (taken c.loop-left.self-inside.first c.next-in_default-head.new.self c.next-in_default-head.result c.next-in_default-head.ensures.first c.next-in_default-head.ensures.rest))

pub returns-in_default-head-clause-goes : goal.returns-in_default-head-clause-goes
returns-in_default-head-clause-goes g c =
    goes (λ left. symmetric_difference g.T.Ord.cmp left.0 left.1) c.args.self.now (c.next-in_default-head.new.self, c.loop-left.self-inside.second) c.next-in_default-head.result
    (subst (λ l. Steps l c.next-in_default-head.result (symmetric_difference g.T.Ord.cmp c.next-in_default-head.new.self c.loop-left.self-inside.second)) c.loop-left.invariant (along (symmetric_difference g.T.Ord.cmp c.loop-left.self-inside.first c.loop-left.self-inside.second) (symmetric_difference g.T.Ord.cmp c.next-in_default-head.new.self c.loop-left.self-inside.second) c.loop-left.self-inside.first c.next-in_default-head.new.self c.next-in_default-head.result (apart-no-second g.T.Ord.cmp c.loop-left.self-inside.first c.loop-left.self-inside.second (empty c.loop-left.self-inside.second c.head-in-loop-left.result c.head-in-loop-left.ensures.next c.in_default-head.is)) (apart-no-second g.T.Ord.cmp c.next-in_default-head.new.self c.loop-left.self-inside.second (empty c.loop-left.self-inside.second c.head-in-loop-left.result c.head-in-loop-left.ensures.next c.in_default-head.is)) (taken c.loop-left.self-inside.first c.next-in_default-head.new.self c.next-in_default-head.result c.next-in_default-head.ensures.first c.next-in_default-head.ensures.rest)))

pub returns-in-Less-clause-steps : goal.returns-in-Less-clause-steps
returns-in-Less-clause-steps g c =
    subst (λ l. Steps l (Some c.in-Some-head.right) (symmetric_difference g.T.Ord.cmp c.loop-left.self-inside.first c.advance.new.self)) c.loop-left.invariant (rw c.advance.ensures (apart-less g.T.Ord.cmp c.loop-left.self-inside.first c.loop-left.self-inside.second (drop 1 c.loop-left.self-inside.first) (drop 1 c.loop-left.self-inside.second) c.in-Some.left.now c.in-Some-head.right.now (headed c.loop-left.self-inside.first c.head.result c.in-Some.left c.head.ensures.next c.in-Some.is) (headed c.loop-left.self-inside.second c.head-in-loop-left.result c.in-Some-head.right c.head-in-loop-left.ensures.next c.in-Some-head.is) (let compared = c.cmp.ensures in let is = c.in-Less.is in cc)))

pub returns-in-Less-clause-goes : goal.returns-in-Less-clause-goes
returns-in-Less-clause-goes g c =
    goes (λ left. symmetric_difference g.T.Ord.cmp left.0 left.1) c.args.self.now (c.loop-left.self-inside.first, c.advance.new.self) (Some c.in-Some-head.right)
    (subst (λ l. Steps l (Some c.in-Some-head.right) (symmetric_difference g.T.Ord.cmp c.loop-left.self-inside.first c.advance.new.self)) c.loop-left.invariant (rw c.advance.ensures (apart-less g.T.Ord.cmp c.loop-left.self-inside.first c.loop-left.self-inside.second (drop 1 c.loop-left.self-inside.first) (drop 1 c.loop-left.self-inside.second) c.in-Some.left.now c.in-Some-head.right.now (headed c.loop-left.self-inside.first c.head.result c.in-Some.left c.head.ensures.next c.in-Some.is) (headed c.loop-left.self-inside.second c.head-in-loop-left.result c.in-Some-head.right c.head-in-loop-left.ensures.next c.in-Some-head.is) (let compared = c.cmp.ensures in let is = c.in-Less.is in cc))))

pub returns-in-Greater-clause-steps : goal.returns-in-Greater-clause-steps
returns-in-Greater-clause-steps g c =
    subst (λ l. Steps l (Some c.in-Some.left) (symmetric_difference g.T.Ord.cmp c.advance-in-Greater.new.self c.loop-left.self-inside.second)) c.loop-left.invariant (rw c.advance-in-Greater.ensures (apart-greater g.T.Ord.cmp c.loop-left.self-inside.first c.loop-left.self-inside.second (drop 1 c.loop-left.self-inside.first) (drop 1 c.loop-left.self-inside.second) c.in-Some.left.now c.in-Some-head.right.now (headed c.loop-left.self-inside.first c.head.result c.in-Some.left c.head.ensures.next c.in-Some.is) (headed c.loop-left.self-inside.second c.head-in-loop-left.result c.in-Some-head.right c.head-in-loop-left.ensures.next c.in-Some-head.is) (let compared = c.cmp.ensures in let is = c.in-Greater.is in cc)))

pub returns-in-Greater-clause-goes : goal.returns-in-Greater-clause-goes
returns-in-Greater-clause-goes g c =
    goes (λ left. symmetric_difference g.T.Ord.cmp left.0 left.1) c.args.self.now (c.advance-in-Greater.new.self, c.loop-left.self-inside.second) (Some c.in-Some.left)
    (subst (λ l. Steps l (Some c.in-Some.left) (symmetric_difference g.T.Ord.cmp c.advance-in-Greater.new.self c.loop-left.self-inside.second)) c.loop-left.invariant (rw c.advance-in-Greater.ensures (apart-greater g.T.Ord.cmp c.loop-left.self-inside.first c.loop-left.self-inside.second (drop 1 c.loop-left.self-inside.first) (drop 1 c.loop-left.self-inside.second) c.in-Some.left.now c.in-Some-head.right.now (headed c.loop-left.self-inside.first c.head.result c.in-Some.left c.head.ensures.next c.in-Some.is) (headed c.loop-left.self-inside.second c.head-in-loop-left.result c.in-Some-head.right c.head-in-loop-left.ensures.next c.in-Some-head.is) (let compared = c.cmp.ensures in let is = c.in-Greater.is in cc))))

pub loop-left-preserved : goal.loop-left-preserved
loop-left-preserved g c = rw (c.advance-in-Equal.ensures, c.advance-in-Equal-2.ensures) (sym (apart-equal g.T.Ord.cmp c.loop-left.self-inside.first c.loop-left.self-inside.second (drop 1 c.loop-left.self-inside.first) (drop 1 c.loop-left.self-inside.second) c.in-Some.left.now c.in-Some-head.right.now (headed c.loop-left.self-inside.first c.head.result c.in-Some.left c.head.ensures.next c.in-Some.is) (headed c.loop-left.self-inside.second c.head-in-loop-left.result c.in-Some-head.right c.head-in-loop-left.ensures.next c.in-Some-head.is) (let compared = c.cmp.ensures in let is = c.in-Equal.is in cc)) ∙ c.loop-left.invariant)

pub loop-left-smaller : goal.loop-left-smaller
loop-left-smaller g c = rw (c.advance-in-Equal.ensures, c.advance-in-Equal-2.ensures) (let fewer = ap length (headed c.loop-left.self-inside.first c.head.result c.in-Some.left c.head.ensures.next c.in-Some.is) in let less = ap length (headed c.loop-left.self-inside.second c.head-in-loop-left.result c.in-Some-head.right c.head-in-loop-left.ensures.next c.in-Some-head.is) in omega arith)
