use Rattle.btree_leaf.proofs.Common.{common_steps, arith, rules}
use Rattle.btree_leaf.proofs.leaf.LeafNode.find_counted.Goals as goal

pub items-requires : goal.items-requires
items-requires g c = grind (arith, common_steps) steps 300000

pub place_counted-requires : goal.place_counted-requires
place_counted-requires g c = grind (arith, common_steps) steps 300000

pub returns-clause-place : goal.returns-clause-place
returns-clause-place g c = search rules steps 200000

pub returns-clause-within : goal.returns-clause-within
returns-clause-within g c = search rules steps 200000

pub returns-clause-fits : goal.returns-clause-fits
returns-clause-fits g c = grind (arith, common_steps) steps 300000

pub returns-clause-ticks : goal.returns-clause-ticks
returns-clause-ticks g c = c.place_counted.ensures.ticks

pub returns-clause-counted : goal.returns-clause-counted
returns-clause-counted g c = rw c.items.ensures at c.place_counted.ensures.counted
