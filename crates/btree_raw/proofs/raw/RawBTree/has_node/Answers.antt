use Rattle.btree_raw.proofs.raw.RawBTree.has_node.Goals as goal
use Rattle.btree_raw.proofs.Common.{common_steps, arith, rules}

pub get-requires : goal.get-requires
get-requires g c = c.tell_fits.ensures

pub tell_fits-requires : goal.tell_fits-requires
tell_fits-requires g c κs = search rules steps 200000

pub returns : goal.returns
returns g c = grind (arith, common_steps) steps 300000
