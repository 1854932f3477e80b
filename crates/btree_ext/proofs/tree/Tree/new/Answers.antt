use Rattle.btree_ext.proofs.TreeLimitLemmas.{empty-within}
use Rattle.btree_ext.proofs.tree.Tree.new.Goals as goal

pub invariant_of-result : goal.invariant_of-result
invariant_of-result g c = empty-within g.K.Ord.cmp c.new.result _ c.new.ensures
