use Rattle.std.proofs.Common.{refl}
use Rattle.btree_image.proofs.places.store_place.Goals as goal

pub returns-in-Ok-clause-stored : goal.returns-in-Ok-clause-stored
returns-in-Ok-clause-stored g c = rw c.in-Some.is c.in-Ok.ensures.stored

pub returns-in-None-clause-stored : goal.returns-in-None-clause-stored
returns-in-None-clause-stored g c = rw c.in-None.is refl

pub returns-in-Ok-clause-reached : goal.returns-in-Ok-clause-reached
returns-in-Ok-clause-reached g c = rw c.in-Some.is c.in-Ok.ensures.reached

pub returns-in-None-clause-reached : goal.returns-in-None-clause-reached
returns-in-None-clause-reached g c = rw c.in-None.is refl

pub returns-in-Err-clause-node : goal.returns-in-Err-clause-node
returns-in-Err-clause-node g c = rw c.in-Some.is refl
