use Rattle.btree_internal.proofs.Common.{common_steps, arith, rules}
use Rattle.btree_internal.proofs.internal.InternalNode.set_parent.Goals as goal

pub unwrap_or-self-inside-requires : goal.unwrap_or-self-inside-requires
unwrap_or-self-inside-requires g c κs = search rules steps 200000

pub returns : goal.returns
returns g c = grind (arith, common_steps) steps 2000000
