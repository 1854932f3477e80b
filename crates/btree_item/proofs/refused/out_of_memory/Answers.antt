use Rattle.btree_item.proofs.refused.out_of_memory.Goals as goal

pub returns : goal.returns
returns c = c.from.ensures
