use Rattle.btree_internal.proofs.Common.{common_steps, arith, rules}
use Rattle.btree_internal.proofs.internal.InternalNode.child_count.Goals as goal

pub item_count-requires : goal.item_count-requires
item_count-requires g c = grind (arith, common_steps) steps 300000

pub overflow_add-result : goal.overflow_add-result
overflow_add-result g c = search rules steps 200000

pub returns-clause-value : goal.returns-clause-value
returns-clause-value g c = grind (arith, common_steps) steps 2000000

pub returns-clause-fits : goal.returns-clause-fits
returns-clause-fits g c = search rules steps 200000
