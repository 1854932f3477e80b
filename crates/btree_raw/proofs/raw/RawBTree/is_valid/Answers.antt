use Rattle.btree_raw.proofs.Common.{common_steps, arith, rules}
use Rattle.btree_raw.proofs.raw.RawBTree.is_valid.Goals as goal

pub is_within-requires : goal.is_within-requires
is_within-requires g c κs = search rules steps 200000

pub returns-then-is_within : goal.returns-then-is_within
returns-then-is_within g c = search rules steps 200000

pub is_none-requires : goal.is_none-requires
is_none-requires g c κs = search rules steps 200000

pub nowhere-requires : goal.nowhere-requires
nowhere-requires g c = search rules steps 200000

pub eq-requires : goal.eq-requires
eq-requires g c = search rules steps 200000

pub returns-then-is_none : goal.returns-then-is_none
returns-then-is_none g c = grind (arith, common_steps) steps 300000

pub returns-else-is_none : goal.returns-else-is_none
returns-else-is_none g c = grind (arith, common_steps) steps 300000
