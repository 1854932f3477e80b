use Rattle.btree_leaf.proofs.Common.{common_steps, arith, rules}
use Rattle.btree_leaf.proofs.leaf.LeafNode.empty.Goals as goal

pub unwrap_or-requires : goal.unwrap_or-requires
unwrap_or-requires g c κs = search rules steps 200000

pub new-requires : goal.new-requires
new-requires g c = search rules steps 200000

pub returns : goal.returns
returns g c = grind (arith, common_steps) steps 2000000
