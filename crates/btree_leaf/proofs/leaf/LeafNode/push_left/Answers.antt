use Rattle.btree_leaf.proofs.Common.{common_steps, arith}
use Rattle.btree_leaf.proofs.leaf.LeafNode.push_left.Goals as goal

pub insert-requires : goal.insert-requires
insert-requires g c = grind (arith, common_steps) steps 300000

pub returns : goal.returns
returns g c = grind (arith, common_steps) steps 300000
