use Rattle.btree_walk.proofs.Common.{arith, fits-leaf}
use Rattle.btree_walk.proofs.walks.Front.next.Goals as goal

pub next_in_leaf-requires : goal.next_in_leaf-requires
next_in_leaf-requires g c = search fits-leaf

pub next_above-requires : goal.next_above-requires
next_above-requires g c = (omega arith, (search fits-leaf, c.requires.above))
