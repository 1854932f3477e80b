use Rattle.btree_leaf.proofs.Common.{common_steps, arith, rules}
use Rattle.btree_leaf.proofs.leaf.LeafNode.remove.Goals as goal

pub unwrap-requires : goal.unwrap-requires
unwrap-requires g c = grind (arith, common_steps) steps 300000

pub remove-requires : goal.remove-requires
remove-requires g c = grind (arith, common_steps) steps 300000

pub returns-clause-answer : goal.returns-clause-answer
returns-clause-answer g c = search rules steps 200000

pub returns-clause-after : goal.returns-clause-after
returns-clause-after g c = grind (arith, common_steps) steps 2000000
