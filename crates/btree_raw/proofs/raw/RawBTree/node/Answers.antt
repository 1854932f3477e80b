use Rattle.btree_raw.proofs.Common.{common_steps, arith}
use Rattle.btree_raw.proofs.raw.RawBTree.node.Goals as goal

pub unreachable-requires : goal.unreachable-requires
unreachable-requires g c = grind (arith, common_steps) steps 300000

pub unreachable-unreachable : goal.unreachable-unreachable
unreachable-unreachable g c = grind (arith, common_steps) steps 300000

pub returns-clause-value : goal.returns-clause-value
returns-clause-value g c = grind (arith, common_steps) steps 300000

pub returns-clause-number : goal.returns-clause-number
returns-clause-number g c = grind (arith, common_steps) steps 300000

pub get-requires : goal.get-requires
get-requires g c = assumption
