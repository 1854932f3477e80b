use Rattle.btree_set.proofs.Common.{arith}
use Rattle.btree_set.proofs.HintLemmas.{lacking-least, lacking-most}
use Rattle.btree_set.proofs.difference.DifferenceIterator.size_hint.Goals as goal

pub returns-clause-lower : goal.returns-clause-lower
returns-clause-lower g c = λ _. rw (← c.self.view_is) (let a = c.len-first.ensures.count in let b = c.len-second.ensures.count in let n = lacking-least g.T.Ord.cmp c.self.inside.first c.self.inside.second g.met.T.Ord.total c.len-first.ensures.ascends c.len-second.ensures.ascends in let x = c.saturating_sub.ensures in omega arith)

pub returns-clause-upper : goal.returns-clause-upper
returns-clause-upper g c = rw (← c.self.view_is) (tt, let a = c.len-first.ensures.count in let b = c.len-second.ensures.count in let n = lacking-most g.T.Ord.cmp c.self.inside.first c.self.inside.second in omega arith)
