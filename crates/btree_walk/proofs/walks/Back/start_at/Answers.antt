use Rattle.btree_walk.proofs.Common.{arith, fits-leaf}
use Rattle.btree_walk.proofs.walks.Back.start_at.Goals as goal

pub end_at-kept-requires : goal.end_at-kept-requires
end_at-kept-requires g c = (omega arith, (search fits-leaf, c.requires.none))

pub run_to-self-requires : goal.run_to-self-requires
run_to-self-requires g c = (search fits-leaf, c.end_at-kept.ensures.kept)
