use Rattle.btree_raw.proofs.Common.{common_steps, arith, rules}
use Rattle.btree_raw.proofs.raw.RawBTree.node_mut.Goals as goal

pub unreachable-requires : goal.unreachable-requires
unreachable-requires g c = grind (arith, common_steps) steps 300000

pub unreachable-unreachable : goal.unreachable-unreachable
unreachable-unreachable g c = grind (arith, common_steps) steps 300000

pub invariant_of-self-inside-lent : goal.invariant_of-self-inside-lent
invariant_of-self-inside-lent g c = search rules steps 200000

pub invariant_of-self-lent : goal.invariant_of-self-lent
invariant_of-self-lent g c = search rules steps 200000

pub get_mut-requires : goal.get_mut-requires
get_mut-requires g c = assumption
