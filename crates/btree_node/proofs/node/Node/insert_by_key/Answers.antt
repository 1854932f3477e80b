use Rattle.btree_node.proofs.Common.{arith, refl}
use Rattle.btree_node.proofs.NodeSizes.{fits-internal, fits-leaf}
use Rattle.btree_node.proofs.node.Node.insert_by_key.Goals as goal

pub insert_by_key-requires : goal.insert_by_key-requires
insert_by_key-requires g c = let fits = c.well_formed in (search fits-internal, rw c.in-Internal.is at c.requires.ascends)

pub insert_by_key-requires-in-Leaf : goal.insert_by_key-requires-in-Leaf
insert_by_key-requires-in-Leaf g c =
    let fits = c.well_formed in
    let room = rw c.in-Leaf.is at c.requires.room in
    let bound = room refl in
    (search fits-leaf, (omega arith, rw c.in-Leaf.is at c.requires.ascends))
