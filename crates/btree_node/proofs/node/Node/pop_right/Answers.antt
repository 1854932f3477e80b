use Rattle.btree_node.proofs.NodeSizes.{fits-internal, fits-leaf}
use Rattle.btree_node.proofs.Common.{Some, ap, sym, ◌∙◌, arith, rules, length-map, common_steps}
use Rattle.btree_node.specs.declared.node.Node.TheVariants.{Leaf}
use Rattle.btree_node.proofs.node.Node.pop_right.Goals as goal

pub pop_right-requires : goal.pop_right-requires
pop_right-requires g c = let fits = c.well_formed in search fits-internal

pub pop_right-requires-in-Leaf : goal.pop_right-requires-in-Leaf
pop_right-requires-in-Leaf g c = let fits = c.well_formed in search fits-leaf

pub returns-in-Ok-clause-spare : goal.returns-in-Ok-clause-spare
returns-in-Ok-clause-spare g c = rw c.in-Internal.is c.in-Ok.ensures.spare

pub returns-in-Ok-clause-offset : goal.returns-in-Ok-clause-offset
returns-in-Ok-clause-offset g c = c.in-Ok.ensures.offset ∙ ap (λ n. Some n) (sym (length-map c.pop_right.new.self.branches (λ b. b.0)))

pub returns-in-Ok-pop_right-clause-spare : goal.returns-in-Ok-pop_right-clause-spare
returns-in-Ok-pop_right-clause-spare g c = rw c.in-Leaf.is c.in-Ok-pop_right.ensures.spare

pub returns-in-Err-pop_right-clause-short : goal.returns-in-Err-pop_right-clause-short
returns-in-Err-pop_right-clause-short g c =
    let short = c.in-Err-pop_right.ensures.short in
    rw c.in-Leaf.is (short.0, ap (λ l. Leaf l) short.1)

pub returns-in-Ok-clause-child : goal.returns-in-Ok-clause-child
returns-in-Ok-clause-child g c = search rules steps 200000

pub returns-in-Ok-clause-short : goal.returns-in-Ok-clause-short
returns-in-Ok-clause-short g c = search rules steps 200000

pub returns-in-Err-clause-spare : goal.returns-in-Err-clause-spare
returns-in-Err-clause-spare g c = search rules steps 200000

pub returns-in-Err-clause-offset : goal.returns-in-Err-clause-offset
returns-in-Err-clause-offset g c = search rules steps 200000

pub returns-in-Err-clause-child : goal.returns-in-Err-clause-child
returns-in-Err-clause-child g c = search rules steps 200000

pub returns-in-Err-clause-taken : goal.returns-in-Err-clause-taken
returns-in-Err-clause-taken g c = search rules steps 200000

pub returns-in-Err-clause-short : goal.returns-in-Err-clause-short
returns-in-Err-clause-short g c = grind (arith, common_steps) steps 2000000

pub returns-in-Ok-pop_right-clause-offset : goal.returns-in-Ok-pop_right-clause-offset
returns-in-Ok-pop_right-clause-offset g c = search rules steps 200000

pub returns-in-Ok-pop_right-clause-child : goal.returns-in-Ok-pop_right-clause-child
returns-in-Ok-pop_right-clause-child g c = search rules steps 200000

pub returns-in-Ok-pop_right-clause-short : goal.returns-in-Ok-pop_right-clause-short
returns-in-Ok-pop_right-clause-short g c = search rules steps 200000

pub returns-in-Err-pop_right-clause-spare : goal.returns-in-Err-pop_right-clause-spare
returns-in-Err-pop_right-clause-spare g c = search rules steps 200000

pub returns-in-Err-pop_right-clause-offset : goal.returns-in-Err-pop_right-clause-offset
returns-in-Err-pop_right-clause-offset g c = search rules steps 200000

pub returns-in-Err-pop_right-clause-child : goal.returns-in-Err-pop_right-clause-child
returns-in-Err-pop_right-clause-child g c = search rules steps 200000

pub returns-in-Err-pop_right-clause-taken : goal.returns-in-Err-pop_right-clause-taken
returns-in-Err-pop_right-clause-taken g c = search rules steps 200000
