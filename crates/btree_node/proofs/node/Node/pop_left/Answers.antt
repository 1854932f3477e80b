use Rattle.btree_node.proofs.NodeSizes.{fits-internal, fits-leaf}
use Rattle.btree_node.proofs.Common.{ap, arith, rules, common_steps}
use Rattle.btree_node.specs.declared.node.Node.TheVariants.{Leaf}
use Rattle.btree_node.proofs.node.Node.pop_left.Goals as goal

pub pop_left-requires : goal.pop_left-requires
pop_left-requires g c = let fits = c.well_formed in search fits-internal

pub pop_left-requires-in-Leaf : goal.pop_left-requires-in-Leaf
pop_left-requires-in-Leaf g c = let fits = c.well_formed in search fits-leaf

pub returns-in-Err-pop_left-clause-short : goal.returns-in-Err-pop_left-clause-short
returns-in-Err-pop_left-clause-short g c =
    let short = c.in-Err-pop_left.ensures.short in
    rw c.in-Leaf.is (short.0, ap (λ l. Leaf l) short.1)

pub returns-in-Ok-clause-spare : goal.returns-in-Ok-clause-spare
returns-in-Ok-clause-spare g c = grind (arith, common_steps) steps 300000

pub returns-in-Ok-clause-child : goal.returns-in-Ok-clause-child
returns-in-Ok-clause-child g c = search rules steps 200000

pub returns-in-Ok-clause-taken : goal.returns-in-Ok-clause-taken
returns-in-Ok-clause-taken g c = grind (arith, common_steps) steps 300000

pub returns-in-Ok-clause-short : goal.returns-in-Ok-clause-short
returns-in-Ok-clause-short g c = search rules steps 200000

pub returns-in-Err-clause-spare : goal.returns-in-Err-clause-spare
returns-in-Err-clause-spare g c = search rules steps 200000

pub returns-in-Err-clause-child : goal.returns-in-Err-clause-child
returns-in-Err-clause-child g c = search rules steps 200000

pub returns-in-Err-clause-taken : goal.returns-in-Err-clause-taken
returns-in-Err-clause-taken g c = search rules steps 200000

pub returns-in-Err-clause-short : goal.returns-in-Err-clause-short
returns-in-Err-clause-short g c = grind (arith, common_steps) steps 2000000

pub returns-in-Ok-pop_left-clause-spare : goal.returns-in-Ok-pop_left-clause-spare
returns-in-Ok-pop_left-clause-spare g c = grind (arith, common_steps) steps 300000

pub returns-in-Ok-pop_left-clause-child : goal.returns-in-Ok-pop_left-clause-child
returns-in-Ok-pop_left-clause-child g c = search rules steps 200000

pub returns-in-Ok-pop_left-clause-taken : goal.returns-in-Ok-pop_left-clause-taken
returns-in-Ok-pop_left-clause-taken g c = grind (arith, common_steps) steps 300000

pub returns-in-Ok-pop_left-clause-short : goal.returns-in-Ok-pop_left-clause-short
returns-in-Ok-pop_left-clause-short g c = search rules steps 200000

pub returns-in-Err-pop_left-clause-spare : goal.returns-in-Err-pop_left-clause-spare
returns-in-Err-pop_left-clause-spare g c = search rules steps 200000

pub returns-in-Err-pop_left-clause-child : goal.returns-in-Err-pop_left-clause-child
returns-in-Err-pop_left-clause-child g c = search rules steps 200000

pub returns-in-Err-pop_left-clause-taken : goal.returns-in-Err-pop_left-clause-taken
returns-in-Err-pop_left-clause-taken g c = search rules steps 200000
