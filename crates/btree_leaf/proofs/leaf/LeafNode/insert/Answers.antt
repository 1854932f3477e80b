use Rattle.btree_leaf.proofs.Common.{common_steps, arith}
use Rattle.btree_leaf.proofs.leaf.LeafNode.insert.Goals as goal

pub unwrap-requires : goal.unwrap-requires
unwrap-requires g c = grind (arith, common_steps) steps 2000000

pub insert-requires : goal.insert-requires
insert-requires g c = grind (arith, common_steps) steps 300000

pub returns : goal.returns
returns g c = grind (arith, common_steps) steps 300000
