use Rattle.btree_fixed.proofs.CapacityLaws.{taken, update-exact}
use Rattle.btree_fixed.proofs.keys.update_in.Goals as goal

pub returns-clause-exact : goal.returns-clause-exact
returns-clause-exact g c = update-exact _ _ _ _ _ (λ e. e.cause) _ c.update_in-result.ensures.cause c.update_in-result.ensures.granted

pub returns-clause-few : goal.returns-clause-few
returns-clause-few g c = taken _ _ _ _ _ (λ e. e.cause) c.tell_held.ensures.tree _ c.update_in-result.ensures.cause

pub returns-clause-held : goal.returns-clause-held
returns-clause-held g c = c.tell_held.ensures.held
