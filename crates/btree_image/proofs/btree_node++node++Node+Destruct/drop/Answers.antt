use Rattle.btree_node.proofs.NodeSizes.{fits-internal, fits-leaf}
use Rattle.std.proofs.Common.{rules}
use Rattle.btree_image.proofs.btree_node++node++Node+Destruct.drop.Goals as goal

pub drop-requires : goal.drop-requires
drop-requires g c = let fits = c.well_formed in search fits-internal

pub drop-requires-2 : goal.drop-requires-2
drop-requires-2 g c = let fits = c.well_formed in search fits-leaf

-- the derived drop of `Node` (btree_node/src/node.rt)
pub returns : goal.returns
returns g c = search rules steps 200000

-- the derived drop of `Node` (btree_node/src/node.rt)
pub returns-2 : goal.returns-2
returns-2 g c = search rules steps 200000
