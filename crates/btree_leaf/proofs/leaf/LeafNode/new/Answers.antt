use Rattle.btree_leaf.proofs.Common.{common_steps, arith, rules}
use Rattle.btree_leaf.proofs.leaf.LeafNode.new.Goals as goal

pub empty-leaf-requires : goal.empty-leaf-requires
empty-leaf-requires g c = search rules steps 200000

pub push-requires : goal.push-requires
push-requires g c = grind (arith, common_steps) steps 300000

pub returns : goal.returns
returns g c = search rules steps 200000
