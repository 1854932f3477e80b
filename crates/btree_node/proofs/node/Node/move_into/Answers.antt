use Rattle.btree_node.proofs.Common.{refl}
use Rattle.btree_node.proofs.NodeSizes.{fits-leaf}
use Rattle.btree_node.proofs.node.Node.move_into.Goals as goal

pub move_into-requires : goal.move_into-requires
move_into-requires g c = let fits = c.well_formed in (search fits-leaf, rw c.in-Leaf-part.is at c.requires.empty)

pub unreachable-requires : goal.unreachable-requires
unreachable-requires g c = let bad = rw c.in-Internal-part.is at c.requires.leaf in cc

pub returns-in-Leaf-part-clause-moved : goal.returns-in-Leaf-part-clause-moved
returns-in-Leaf-part-clause-moved g c = rw (c.in-Leaf.is, c.move_into.ensures.moved) refl
