use Rattle.btree_walk.proofs.Common.{sym, subst, ◌∙◌, entries_between, Unbounded, pairs_of, bound_key, IsFirstOf, ahead_of, pair_now}
use Rattle.btree_walk.proofs.BoundLemmas.{between-all}
use Rattle.btree_walk.proofs.walks.Front.first.Goals as goal

pub returns-in-Unbounded-clause-first : goal.returns-in-Unbounded-clause-first
returns-in-Unbounded-clause-first g c =
    let pairs = pairs_of c.args.tree.now in
    let pair = pair_now c.next.result in
    let rest = ahead_of c.args.tree.now c.next.new.self in
    subst (λ b. IsFirstOf (entries_between g.K.Ord.cmp (bound_key b) Unbounded pairs) pair rest) (sym c.in-Unbounded.is)
    (subst (λ l. IsFirstOf l pair rest) (c.start.ensures.ahead ∙ sym (between-all g.K.Ord.cmp pairs)) c.next.ensures.first)
