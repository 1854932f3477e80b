use Rattle.btree_raw.proofs.Common.{common_steps, arith, rules}
use Rattle.btree_raw.proofs.raw.RawBTree.release_node.Goals as goal

pub invariant_of-self : goal.invariant_of-self
invariant_of-self g c = search rules steps 200000

pub returns-clause-node : goal.returns-clause-node
returns-clause-node g c = grind (arith, common_steps) steps 300000

pub returns-clause-after : goal.returns-clause-after
returns-clause-after g c = grind (arith, common_steps) steps 300000
