use Rattle.btree_leaf.proofs.Common.{common_steps, arith, rules}
use Rattle.btree_leaf.proofs.leaf.LeafNode.push_right.Goals as goal

pub len-requires : goal.len-requires
len-requires g c = search rules steps 200000

pub offset_at-offset-requires : goal.offset_at-offset-requires
offset_at-offset-requires g c = search rules steps 200000

pub push-requires : goal.push-requires
push-requires g c = grind (arith, common_steps) steps 300000

pub returns-clause-offset : goal.returns-clause-offset
returns-clause-offset g c = search rules steps 200000

pub returns-clause-after : goal.returns-clause-after
returns-clause-after g c = grind (arith, common_steps) steps 300000
