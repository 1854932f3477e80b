use Rattle.btree_internal.proofs.Common.{common_steps, arith, rules}
use Rattle.btree_internal.proofs.internal.InternalNode.balance.Goals as goal

pub item_count-requires : goal.item_count-requires
item_count-requires g c = grind (arith, common_steps) steps 300000

pub of-requires : goal.of-requires
of-requires g c = search rules steps 200000

pub returns : goal.returns
returns g c = grind (arith, common_steps) steps 2000000
