use Rattle.btree_fixed.proofs.CapacityLaws.{insert-exact, taken}
use Rattle.btree_fixed.proofs.keys.insert.Goals as goal

pub returns-clause-exact : goal.returns-clause-exact
returns-clause-exact g c = insert-exact _ _ _ _ _ (λ e. e.cause) _ c.insert-result.ensures.cause _ c.insert-result.ensures.inserted_by_key c.tell_held.ensures.held

pub returns-clause-few : goal.returns-clause-few
returns-clause-few g c = taken _ _ _ _ _ (λ e. e.cause) c.tell_held.ensures.tree _ c.insert-result.ensures.cause

pub returns-clause-held : goal.returns-clause-held
returns-clause-held g c = c.tell_held.ensures.held
