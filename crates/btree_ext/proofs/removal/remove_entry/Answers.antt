use Rattle.btree_ext.proofs.RemoveByKeyLemmas.{if-by-key}
use Rattle.btree_ext.proofs.removal.remove_entry.Goals as goal

pub returns-clause-removed_by_key : goal.returns-clause-removed_by_key
returns-clause-removed_by_key g c =
    if-by-key g.K.Ord.cmp g.met.K.Ord.total c.args.tree.now c.requires c.args.key.now c.remove_by.new.tree c.remove_by.result c.remove_by.ensures.removed_by
