use Rattle.btree_node.proofs.NodeSizes.{fits-leaf}
use Rattle.btree_raw.proofs.Common.{rules}
use Rattle.btree_raw.proofs.claims.empty_leaf.Goals as goal

pub empty-requires : goal.empty-requires
empty-requires g c = let fits = c.well_formed in search fits-leaf

pub returns : goal.returns
returns g c = search rules steps 200000
