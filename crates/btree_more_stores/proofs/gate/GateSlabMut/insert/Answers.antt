use Rattle.std.proofs.lemmas.Grind.{common_steps}
use Rattle.std.proofs.Common.{arith}
use Rattle.btree_more_stores.proofs.gate.GateSlabMut.insert.Goals as goal

pub returns-then-self-eq1-clause-unchanged : goal.returns-then-self-eq1-clause-unchanged
returns-then-self-eq1-clause-unchanged g c = grind (arith, common_steps) steps 300000

pub returns-then-self-eq1-clause-refuses : goal.returns-then-self-eq1-clause-refuses
returns-then-self-eq1-clause-refuses g c = grind (arith, common_steps) steps 300000

pub returns-in-Ok-clause-unused : goal.returns-in-Ok-clause-unused
returns-in-Ok-clause-unused g c = grind (arith, common_steps) steps 300000

pub returns-in-Ok-clause-stored : goal.returns-in-Ok-clause-stored
returns-in-Ok-clause-stored g c = grind (arith, common_steps) steps 300000

pub returns-in-Ok-clause-refuses : goal.returns-in-Ok-clause-refuses
returns-in-Ok-clause-refuses g c = grind (arith, common_steps) steps 300000

pub returns-in-Err-clause-returned : goal.returns-in-Err-clause-returned
returns-in-Err-clause-returned g c = grind (arith, common_steps) steps 300000

pub returns-in-Err-clause-unchanged : goal.returns-in-Err-clause-unchanged
returns-in-Err-clause-unchanged g c = grind (arith, common_steps) steps 300000

pub returns-in-Err-clause-refuses_at : goal.returns-in-Err-clause-refuses_at
returns-in-Err-clause-refuses_at g c = grind (arith, common_steps) steps 300000

pub returns-in-Err-clause-refuses : goal.returns-in-Err-clause-refuses
returns-in-Err-clause-refuses g c = grind (arith, common_steps) steps 300000
