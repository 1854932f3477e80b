use Rattle.btree_fixed.proofs.CapacityLaws.{replace-exact, taken}
use Rattle.btree_fixed.proofs.keys.replace.Goals as goal

pub returns-clause-exact : goal.returns-clause-exact
returns-clause-exact g c = replace-exact _ _ _ _ _ (λ e. e.cause) _ c.replace-result.ensures.cause _ c.replace-result.ensures.replaced_by_key c.tell_held.ensures.held

pub returns-clause-few : goal.returns-clause-few
returns-clause-few g c = taken _ _ _ _ _ (λ e. e.cause) c.tell_held.ensures.tree _ c.replace-result.ensures.cause

pub returns-clause-held : goal.returns-clause-held
returns-clause-held g c = c.tell_held.ensures.held
