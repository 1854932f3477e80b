use Rattle.btree_ext.proofs.Common.{ap, ◌∙◌, TreeState, with_limit}
use Rattle.btree_ext.proofs.TreeLimitLemmas.{limited-within}
use Rattle.btree_ext.proofs.tree.Tree.swap.Goals as goal

pub invariant_of-self : goal.invariant_of-self
invariant_of-self g c =
    limited-within g.K.Ord.cmp c.other.inside.raw c.set_limit.new.self c.limit-limit.result
    (c.set_limit.ensures ∙ ap (λ (s : TreeState _ _). with_limit s c.limit-limit.result) c.swap.ensures.x_after)
    c.other.invariant.0 (rw (c.limit-limit.ensures, c.self.view_is, c.other.view_is) c.requires.fits)

pub invariant_of-other : goal.invariant_of-other
invariant_of-other g c =
    limited-within g.K.Ord.cmp c.self.inside.raw c.set_limit-2.new.self c.limit-other_limit.result
    (c.set_limit-2.ensures ∙ ap (λ (s : TreeState _ _). with_limit s c.limit-other_limit.result) c.swap.ensures.y_after)
    c.self.invariant.0 (rw (c.limit-other_limit.ensures, c.self.view_is, c.other.view_is) c.requires.other_fits)
