use Rattle.btree_internal.proofs.Common.{common_steps, arith}
use Rattle.btree_internal.proofs.internal.InternalNode.first_child_id.Goals as goal

pub child_id-requires : goal.child_id-requires
child_id-requires g c = grind (arith, common_steps) steps 300000

pub returns : goal.returns
returns g c = grind (arith, common_steps) steps 300000
