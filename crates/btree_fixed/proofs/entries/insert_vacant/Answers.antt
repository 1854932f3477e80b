use Rattle.btree_fixed.proofs.CapacityLaws.{taken}
use Rattle.btree_fixed.proofs.EntryLaws.{by_entry-exact}
use Rattle.btree_fixed.proofs.entries.insert_vacant.Goals as goal

pub returns-clause-exact : goal.returns-clause-exact
returns-clause-exact g c = by_entry-exact _ _ _ _ _ (λ e. e.cause) _ c.insert_by_vacant-result.ensures.inserted c.insert_by_vacant-result.ensures.cause c.tell_held.ensures.held

pub returns-clause-few : goal.returns-clause-few
returns-clause-few g c = taken _ _ _ _ _ (λ e. e.cause) c.tell_held.ensures.tree _ c.insert_by_vacant-result.ensures.cause

pub returns-clause-held : goal.returns-clause-held
returns-clause-held g c = c.tell_held.ensures.held
