use Rattle.btree_walk.proofs.Common.{subst, arith, IsLastOf, behind_of, pair_now}
use Rattle.btree_walk.proofs.iter.step_back.Goals as goal

pub returns-clause-last : goal.returns-clause-last
returns-clause-last g c =
    rw c.in_default.is
    (subst (λ l. IsLastOf l (pair_now c.next_back-last.result) (behind_of c.args.tree.now c.next_back-last.new.self)) c.start.ensures.behind c.next_back-last.ensures.last)

pub next_back-requires : goal.next_back-requires
next_back-requires g c = (omega arith, rw c.in-Some.is at c.requires)

pub start-requires : goal.start-requires
start-requires g c = (omega arith, (c.new-new.ensures.none, rw c.new-new.ensures.fetched tt))

pub next_back-last-requires : goal.next_back-last-requires
next_back-last-requires g c = (omega arith, (c.start.ensures.above, c.start.ensures.fetched))

pub returns-in-Some-clause-back : goal.returns-in-Some-clause-back
returns-in-Some-clause-back g c = (c.next_back.ensures.above, c.next_back.ensures.fetched)

pub returns-in-Some-clause-last : goal.returns-in-Some-clause-last
returns-in-Some-clause-last g c = rw c.in-Some.is c.next_back.ensures.last

pub returns-clause-back : goal.returns-clause-back
returns-clause-back g c = (c.next_back-last.ensures.above, c.next_back-last.ensures.fetched)
