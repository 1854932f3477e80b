use Rattle.btree_ext.proofs.RemoveInnerLemmas.{inner-settled}
use Rattle.btree_ext.proofs.removal.remove_inner.Goals as goal

pub returns : goal.returns
returns g c =
    inner-settled g.met.K.Ord.total c.requires.tree c.requires.inner c.take_inner-item.ensures.taken c.settle-at.ensures.few
    c.take_inner-item.result.4 c.take_inner-item.ensures.behind c.settle-at.new.tree c.settle-at.result c.settle-at.ensures.rebalanced
