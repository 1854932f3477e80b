use Rattle.btree_ext.proofs.TreeLimitLemmas.{empty-within}
use Rattle.btree_ext.proofs.tree.Tree.clear.Goals as goal

pub invariant_of-self : goal.invariant_of-self
invariant_of-self g c = empty-within g.K.Ord.cmp c.clear.new.self _ c.clear.ensures
