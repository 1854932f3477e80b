use Rattle.btree_raw.proofs.raw.RawBTree.in_store.Goals as goal

pub note_fits-requires : goal.note_fits-requires
note_fits-requires g c = c.requires
