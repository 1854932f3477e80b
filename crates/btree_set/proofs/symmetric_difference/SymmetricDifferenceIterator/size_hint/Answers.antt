use Rattle.btree_set.proofs.Common.{arith}
use Rattle.btree_set.proofs.HintLemmas.{apart-most, up-to-sum}
use Rattle.btree_set.proofs.symmetric_difference.SymmetricDifferenceIterator.size_hint.Goals as goal

pub returns-clause-upper : goal.returns-clause-upper
returns-clause-upper g c = rw (← c.self.view_is) (let a = c.len-first.ensures.count in let b = c.len-second.ensures.count in let n = apart-most g.T.Ord.cmp c.self.inside.first c.self.inside.second in up-to-sum c.checked_add.result c.len-first.result c.len-second.result _ c.checked_add.ensures (omega arith))
