use Rattle.btree_walk.proofs.Common.{arith, fits-leaf}
use Rattle.btree_walk.proofs.walks.Front.start.Goals as goal

pub start-self-requires : goal.start-self-requires
start-self-requires g c = (omega arith, (search fits-leaf, c.requires.none))
