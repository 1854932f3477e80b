use Rattle.btree_ext.proofs.Common.{ap, ◌∙◌, TreeState, with_limit}
use Rattle.btree_ext.proofs.TreeLimitLemmas.{empty-within}
use Rattle.btree_ext.proofs.tree.Tree.with_limit.Goals as goal

pub invariant_of-result : goal.invariant_of-result
invariant_of-result g c =
    empty-within g.K.Ord.cmp c.set_limit.new.self _ (c.set_limit.ensures ∙ ap (λ (s : TreeState _ _). with_limit s c.args.limit) c.new-raw.ensures)
