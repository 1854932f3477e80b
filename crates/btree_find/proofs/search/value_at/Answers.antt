use Rattle.btree_find.proofs.search.value_at.Goals as goal

pub item-requires : goal.item-requires
item-requires g c = assumption
