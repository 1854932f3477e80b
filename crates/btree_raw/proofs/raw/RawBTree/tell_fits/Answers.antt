use Rattle.btree_raw.proofs.Common.{arith, rules, common_steps}
use Rattle.btree_raw.proofs.raw.RawBTree.tell_fits.Goals as goal

pub tell_fits-requires : goal.tell_fits-requires
tell_fits-requires g c = search rules steps 200000

pub returns : goal.returns
returns g c = grind (arith, common_steps) steps 1500000
