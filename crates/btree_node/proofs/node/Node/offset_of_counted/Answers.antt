use Rattle.btree_node.proofs.NodeSizes.{fits-internal, fits-leaf}
use Rattle.btree_node.proofs.node.Node.offset_of_counted.Goals as goal
use Rattle.btree_node.proofs.Common.{common_steps, arith, rules}

pub offset_of_counted-requires : goal.offset_of_counted-requires
offset_of_counted-requires g c = (search fits-internal, rw c.in-Internal.is at c.requires)

pub find_counted-requires : goal.find_counted-requires
find_counted-requires g c = (search fits-leaf, rw c.in-Leaf.is at c.requires)

pub returns-in-Ok-clause-within : goal.returns-in-Ok-clause-within
returns-in-Ok-clause-within g c = rw c.in-Internal.is c.in-Ok.ensures.within

pub returns-in-Ok-find_counted-clause-within : goal.returns-in-Ok-find_counted-clause-within
returns-in-Ok-find_counted-clause-within g c = rw (c.in-Leaf.is, c.offset_at.ensures) c.in-Ok-find_counted.ensures.within

pub returns-in-Err-find_counted-clause-within : goal.returns-in-Err-find_counted-clause-within
returns-in-Err-find_counted-clause-within g c = rw c.in-Leaf.is c.in-Err-find_counted.ensures.within

pub offset_at-requires : goal.offset_at-requires
offset_at-requires g c = grind (arith, common_steps) steps 300000

pub returns-in-Ok-clause-value : goal.returns-in-Ok-clause-value
returns-in-Ok-clause-value g c = search rules steps 200000

pub returns-in-Err-clause-value : goal.returns-in-Err-clause-value
returns-in-Err-clause-value g c = search rules steps 200000

pub returns-in-Err-clause-within : goal.returns-in-Err-clause-within
returns-in-Err-clause-within g c = grind (arith, common_steps) steps 2000000

pub returns-in-Ok-find_counted-clause-value : goal.returns-in-Ok-find_counted-clause-value
returns-in-Ok-find_counted-clause-value g c = search rules steps 200000

pub returns-in-Err-find_counted-clause-value : goal.returns-in-Err-find_counted-clause-value
returns-in-Err-find_counted-clause-value g c = search rules steps 200000

pub returns-in-Ok-clause-ticks : goal.returns-in-Ok-clause-ticks
returns-in-Ok-clause-ticks g c = omega arith

pub returns-in-Err-clause-ticks : goal.returns-in-Err-clause-ticks
returns-in-Err-clause-ticks g c = omega arith

pub returns-in-Ok-find_counted-clause-ticks : goal.returns-in-Ok-find_counted-clause-ticks
returns-in-Ok-find_counted-clause-ticks g c = omega arith

pub returns-in-Err-find_counted-clause-ticks : goal.returns-in-Err-find_counted-clause-ticks
returns-in-Err-find_counted-clause-ticks g c = omega arith

pub returns-in-Ok-clause-counted : goal.returns-in-Ok-clause-counted
returns-in-Ok-clause-counted g c = rw c.in-Internal.is c.in-Ok.ensures.counted

pub returns-in-Err-clause-counted : goal.returns-in-Err-clause-counted
returns-in-Err-clause-counted g c = rw c.in-Internal.is c.in-Err.ensures.counted

pub returns-in-Ok-find_counted-clause-counted : goal.returns-in-Ok-find_counted-clause-counted
returns-in-Ok-find_counted-clause-counted g c = rw c.in-Leaf.is c.in-Ok-find_counted.ensures.counted

pub returns-in-Err-find_counted-clause-counted : goal.returns-in-Err-find_counted-clause-counted
returns-in-Err-find_counted-clause-counted g c = rw c.in-Leaf.is c.in-Err-find_counted.ensures.counted
