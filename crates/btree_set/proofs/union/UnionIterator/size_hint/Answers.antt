use Rattle.btree_set.proofs.Common.{arith}
use Rattle.btree_set.proofs.HintLemmas.{up-to-sum, union-least, union-most}
use Rattle.btree_set.proofs.union.UnionIterator.size_hint.Goals as goal

pub returns-clause-lower : goal.returns-clause-lower
returns-clause-lower g c = λ _. rw (← c.self.view_is) (let a = c.len-first.ensures.count in let b = c.len-second.ensures.count in let n = union-least g.T.Ord.cmp c.self.inside.first c.self.inside.second in let p = n.0 in let q = n.1 in let x = c.max.ensures in omega arith)

pub returns-clause-upper : goal.returns-clause-upper
returns-clause-upper g c = rw (← c.self.view_is) (let a = c.len-first.ensures.count in let b = c.len-second.ensures.count in let n = union-most g.T.Ord.cmp c.self.inside.first c.self.inside.second in up-to-sum c.checked_add.result c.len-first.result c.len-second.result _ c.checked_add.ensures (omega arith))
