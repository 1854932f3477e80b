use Rattle.btree_internal.proofs.Common.{common_steps, arith, rules}
use Rattle.btree_internal.proofs.internal.InternalNode.parent.Goals as goal

pub returns-then-self-clause-value : goal.returns-then-self-clause-value
returns-then-self-clause-value g c = search rules steps 200000

pub returns-then-self-clause-bound : goal.returns-then-self-clause-bound
returns-then-self-clause-bound g c = search rules steps 200000

pub returns-else-self-clause-value : goal.returns-else-self-clause-value
returns-else-self-clause-value g c = grind (arith, common_steps) steps 3000000

pub returns-else-self-clause-bound : goal.returns-else-self-clause-bound
returns-else-self-clause-bound g c = search rules steps 200000
