use Rattle.btree_session.specs.declared.driver.Stop.TheVariants.{Memory}
use Rattle.btree_session.proofs.Serving.{begun, stopped}
use Rattle.btree_session.proofs.driver.drive.Goals as goal

pub returns-in_default : goal.returns-in_default
returns-in_default g c = stopped _ _ _ _ _ _ _ _ _ Memory (begun _ _ _ _) tt tt
