use Rattle.btree_walk.proofs.Common.{arith, fits-leaf}
use Rattle.btree_walk.proofs.walks.Front.start_from.Goals as goal

pub start_from-passed-requires : goal.start_from-passed-requires
start_from-passed-requires g c = (omega arith, (search fits-leaf, c.requires.none))
