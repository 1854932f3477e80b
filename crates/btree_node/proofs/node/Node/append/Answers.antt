use Rattle.btree_node.proofs.Common.{arith}
use Rattle.btree_node.proofs.node.Node.append.Goals as goal

pub array_drop-emptied-requires-2 : goal.array_drop-emptied-requires-2
array_drop-emptied-requires-2 g c = let fits = c.well_formed in omega arith
