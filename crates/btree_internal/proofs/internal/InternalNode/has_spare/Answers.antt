use Rattle.btree_internal.proofs.Common.{common_steps, arith}
use Rattle.btree_internal.proofs.internal.InternalNode.has_spare.Goals as goal

pub item_count-requires : goal.item_count-requires
item_count-requires g c = grind (arith, common_steps) steps 300000

pub returns : goal.returns
returns g c = grind (arith, common_steps) steps 2000000
