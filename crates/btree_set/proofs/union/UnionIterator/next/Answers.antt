use Rattle.btree_set.proofs.Common.{Some, drop, union}
use Rattle.btree_set.proofs.TurnLemmas.{along, empty, goes, headed, taken, union-greater, union-less, union-no-first, union-no-second}
use Rattle.btree_set.proofs.union.UnionIterator.next.Goals as goal

pub returns-in_default-clause-steps : goal.returns-in_default-clause-steps
returns-in_default-clause-steps g c =
    rw (← c.self.view_is) (along (union g.T.Ord.cmp c.self.inside.first c.self.inside.second) (union g.T.Ord.cmp c.self.inside.first c.next.new.self) c.self.inside.second c.next.new.self c.next.result (union-no-first g.T.Ord.cmp c.self.inside.first c.self.inside.second (empty c.self.inside.first c.head.result c.head.ensures.next c.in_default.is)) (union-no-first g.T.Ord.cmp c.self.inside.first c.next.new.self (empty c.self.inside.first c.head.result c.head.ensures.next c.in_default.is)) (taken c.self.inside.second c.next.new.self c.next.result c.next.ensures.first c.next.ensures.rest))

pub returns-in_default-clause-goes : goal.returns-in_default-clause-goes
returns-in_default-clause-goes g c =
    rw (← c.self.view_is)
    (goes (λ left. union g.T.Ord.cmp left.0 left.1) (c.self.inside.first, c.self.inside.second) (c.self.inside.first, c.next.new.self) c.next.result
    (along (union g.T.Ord.cmp c.self.inside.first c.self.inside.second) (union g.T.Ord.cmp c.self.inside.first c.next.new.self) c.self.inside.second c.next.new.self c.next.result (union-no-first g.T.Ord.cmp c.self.inside.first c.self.inside.second (empty c.self.inside.first c.head.result c.head.ensures.next c.in_default.is)) (union-no-first g.T.Ord.cmp c.self.inside.first c.next.new.self (empty c.self.inside.first c.head.result c.head.ensures.next c.in_default.is)) (taken c.self.inside.second c.next.new.self c.next.result c.next.ensures.first c.next.ensures.rest)))

pub returns-in_default-head-clause-steps : goal.returns-in_default-head-clause-steps
returns-in_default-head-clause-steps g c =
    rw (← c.self.view_is) (along (union g.T.Ord.cmp c.self.inside.first c.self.inside.second) (union g.T.Ord.cmp c.next-in_default-head.new.self c.self.inside.second) c.self.inside.first c.next-in_default-head.new.self c.next-in_default-head.result (union-no-second g.T.Ord.cmp c.self.inside.first c.self.inside.second (empty c.self.inside.second c.head-2.result c.head-2.ensures.next c.in_default-head.is)) (union-no-second g.T.Ord.cmp c.next-in_default-head.new.self c.self.inside.second (empty c.self.inside.second c.head-2.result c.head-2.ensures.next c.in_default-head.is)) (taken c.self.inside.first c.next-in_default-head.new.self c.next-in_default-head.result c.next-in_default-head.ensures.first c.next-in_default-head.ensures.rest))

pub returns-in_default-head-clause-goes : goal.returns-in_default-head-clause-goes
returns-in_default-head-clause-goes g c =
    rw (← c.self.view_is)
    (goes (λ left. union g.T.Ord.cmp left.0 left.1) (c.self.inside.first, c.self.inside.second) (c.next-in_default-head.new.self, c.self.inside.second) c.next-in_default-head.result
    (along (union g.T.Ord.cmp c.self.inside.first c.self.inside.second) (union g.T.Ord.cmp c.next-in_default-head.new.self c.self.inside.second) c.self.inside.first c.next-in_default-head.new.self c.next-in_default-head.result (union-no-second g.T.Ord.cmp c.self.inside.first c.self.inside.second (empty c.self.inside.second c.head-2.result c.head-2.ensures.next c.in_default-head.is)) (union-no-second g.T.Ord.cmp c.next-in_default-head.new.self c.self.inside.second (empty c.self.inside.second c.head-2.result c.head-2.ensures.next c.in_default-head.is)) (taken c.self.inside.first c.next-in_default-head.new.self c.next-in_default-head.result c.next-in_default-head.ensures.first c.next-in_default-head.ensures.rest)))

pub returns-in-Less-clause-steps : goal.returns-in-Less-clause-steps
returns-in-Less-clause-steps g c =
    rw (← c.self.view_is) (rw c.advance.ensures (union-less g.T.Ord.cmp c.self.inside.first c.self.inside.second (drop 1 c.self.inside.first) (drop 1 c.self.inside.second) c.in-Some.left.now c.in-Some-head.right.now (headed c.self.inside.first c.head.result c.in-Some.left c.head.ensures.next c.in-Some.is) (headed c.self.inside.second c.head-2.result c.in-Some-head.right c.head-2.ensures.next c.in-Some-head.is) (let compared = c.cmp.ensures in let is = c.in-Less.is in cc)))

pub returns-in-Less-clause-goes : goal.returns-in-Less-clause-goes
returns-in-Less-clause-goes g c =
    rw (← c.self.view_is)
    (goes (λ left. union g.T.Ord.cmp left.0 left.1) (c.self.inside.first, c.self.inside.second) (c.self.inside.first, c.advance.new.self) (Some c.in-Some-head.right)
    (rw c.advance.ensures (union-less g.T.Ord.cmp c.self.inside.first c.self.inside.second (drop 1 c.self.inside.first) (drop 1 c.self.inside.second) c.in-Some.left.now c.in-Some-head.right.now (headed c.self.inside.first c.head.result c.in-Some.left c.head.ensures.next c.in-Some.is) (headed c.self.inside.second c.head-2.result c.in-Some-head.right c.head-2.ensures.next c.in-Some-head.is) (let compared = c.cmp.ensures in let is = c.in-Less.is in cc))))

pub returns-in-Greater-clause-steps : goal.returns-in-Greater-clause-steps
returns-in-Greater-clause-steps g c =
    rw (← c.self.view_is) (rw c.advance-in-Greater.ensures (union-greater g.T.Ord.cmp c.self.inside.first c.self.inside.second (drop 1 c.self.inside.first) (drop 1 c.self.inside.second) c.in-Some.left.now c.in-Some-head.right.now (headed c.self.inside.first c.head.result c.in-Some.left c.head.ensures.next c.in-Some.is) (headed c.self.inside.second c.head-2.result c.in-Some-head.right c.head-2.ensures.next c.in-Some-head.is) (let compared = c.cmp.ensures in let is = c.in-Greater.is in cc)))

pub returns-in-Greater-clause-goes : goal.returns-in-Greater-clause-goes
returns-in-Greater-clause-goes g c =
    rw (← c.self.view_is)
    (goes (λ left. union g.T.Ord.cmp left.0 left.1) (c.self.inside.first, c.self.inside.second) (c.advance-in-Greater.new.self, c.self.inside.second) (Some c.in-Some.left)
    (rw c.advance-in-Greater.ensures (union-greater g.T.Ord.cmp c.self.inside.first c.self.inside.second (drop 1 c.self.inside.first) (drop 1 c.self.inside.second) c.in-Some.left.now c.in-Some-head.right.now (headed c.self.inside.first c.head.result c.in-Some.left c.head.ensures.next c.in-Some.is) (headed c.self.inside.second c.head-2.result c.in-Some-head.right c.head-2.ensures.next c.in-Some-head.is) (let compared = c.cmp.ensures in let is = c.in-Greater.is in cc))))
