use Rattle.btree_raw.proofs.Common.{arith, rules, common_steps}
use Rattle.btree_raw.proofs.raw.RawBTree.new.Goals as goal

pub empty-requires : goal.empty-requires
empty-requires g c κs = search rules steps 200000

pub invariant_of-result : goal.invariant_of-result
invariant_of-result g c = search rules steps 200000

pub note_fits-requires : goal.note_fits-requires
note_fits-requires g c = c.requires

pub returns : goal.returns
returns g c = grind (arith, common_steps) steps 1500000
