use Rattle.btree_leaf.proofs.Common.{common_steps, arith, rules}
use Rattle.btree_leaf.proofs.leaf.LeafNode.pop_left.Goals as goal

pub has_spare-requires : goal.has_spare-requires
has_spare-requires g c = search rules steps 200000

pub returns-then-not-has_spare-clause-spare : goal.returns-then-not-has_spare-clause-spare
returns-then-not-has_spare-clause-spare g c = search rules steps 200000

pub returns-then-not-has_spare-clause-taken : goal.returns-then-not-has_spare-clause-taken
returns-then-not-has_spare-clause-taken g c = search rules steps 200000

pub returns-then-not-has_spare-clause-short : goal.returns-then-not-has_spare-clause-short
returns-then-not-has_spare-clause-short g c = grind (arith, common_steps) steps 300000

pub remove-requires : goal.remove-requires
remove-requires g c = grind (arith, common_steps) steps 2000000

pub returns-clause-spare : goal.returns-clause-spare
returns-clause-spare g c = grind (arith, common_steps) steps 2000000

pub returns-clause-taken : goal.returns-clause-taken
returns-clause-taken g c = grind (arith, common_steps) steps 2000000

pub returns-clause-short : goal.returns-clause-short
returns-clause-short g c = search rules steps 200000
