use Rattle.btree_node.proofs.NodeSizes.{fits-internal, fits-leaf}
use Rattle.btree_node.proofs.node.NodeClone.clone.Goals as goal

pub clone-requires : goal.clone-requires
clone-requires g c = search fits-internal

pub clone-requires-in-Leaf : goal.clone-requires-in-Leaf
clone-requires-in-Leaf g c = search fits-leaf
