use Rattle.btree_ext.proofs.UpdateKeyLemmas.{address-under, found-under}
use Rattle.btree_ext.proofs.updates.update_in.Goals as goal

pub update_at_or_gap-requires-clause-at : goal.update_at_or_gap-requires-clause-at
update_at_or_gap-requires-clause-at g c =
    address-under g.K.Ord.cmp g.met.K.Ord.total c.args.tree.now c.requires.tree c.args.key c.args.id c.requires.fits
    c.address_in-at.result c.address_in-at.ensures

pub returns-clause-under : goal.returns-clause-under
returns-clause-under g c =
    found-under g.K.Ord.cmp g.met.K.Ord.total c.args.tree.now c.requires.tree c.args.key c.args.id c.requires.fits
    c.address_in-at.result c.address_in-at.ensures
