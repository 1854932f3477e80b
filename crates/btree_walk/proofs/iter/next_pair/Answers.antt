use Rattle.btree_walk.proofs.Common.{arith, fits-leaf}
use Rattle.btree_walk.proofs.iter.next_pair.Goals as goal

pub next_above-requires : goal.next_above-requires
next_above-requires g c = (omega arith, (search fits-leaf, c.requires))

pub run_of-requires : goal.run_of-requires
run_of-requires g c = search fits-leaf
