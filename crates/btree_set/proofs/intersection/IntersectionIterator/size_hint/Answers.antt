use Rattle.btree_set.proofs.Common.{arith}
use Rattle.btree_set.proofs.HintLemmas.{shared-most-first, shared-most-second}
use Rattle.btree_set.proofs.intersection.IntersectionIterator.size_hint.Goals as goal

pub returns-clause-upper : goal.returns-clause-upper
returns-clause-upper g c = rw (← c.self.view_is) (tt, let a = c.len-first.ensures.count in let b = c.len-second.ensures.count in let n = shared-most-first g.T.Ord.cmp c.self.inside.first c.self.inside.second in let m = shared-most-second g.T.Ord.cmp c.self.inside.first c.self.inside.second g.met.T.Ord.total c.len-first.ensures.ascends c.len-second.ensures.ascends in let x = c.min.ensures in omega arith)
