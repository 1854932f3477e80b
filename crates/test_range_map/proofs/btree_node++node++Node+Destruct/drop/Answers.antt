use Rattle.btree_node.proofs.NodeSizes.{fits-internal, fits-leaf}
use Rattle.test_range_map.proofs.btree_node++node++Node+Destruct.drop.Goals as goal

pub drop-requires : goal.drop-requires
drop-requires g c = let fits = c.well_formed in search fits-internal

pub drop-requires-2 : goal.drop-requires-2
drop-requires-2 g c = let fits = c.well_formed in search fits-leaf
