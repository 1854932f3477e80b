use Rattle.btree_fixed.proofs.CapacityLaws.{insert_at-exact, taken-at}
use Rattle.btree_fixed.proofs.places.insert_exactly_at.Goals as goal

pub returns-clause-exact : goal.returns-clause-exact
returns-clause-exact g c =
    insert_at-exact _ _ _ _ _ (λ e. e.cause) _ _ c.insert_exactly_at-result.ensures.inserted c.insert_exactly_at-result.ensures.refused c.tell_held.ensures.held

pub returns-clause-few : goal.returns-clause-few
returns-clause-few g c = taken-at _ _ _ _ _ (λ e. e.cause) c.tell_held.ensures.tree _ c.insert_exactly_at-result.ensures.refused

pub returns-clause-held : goal.returns-clause-held
returns-clause-held g c = c.tell_held.ensures.held
