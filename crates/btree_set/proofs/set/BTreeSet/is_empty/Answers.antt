use Rattle.btree_set.proofs.Common.{pairs_of}
use Rattle.btree_set.proofs.KeyLemmas.{keys-none}
use Rattle.btree_set.proofs.set.BTreeSet.is_empty.Goals as goal

pub returns : goal.returns
returns g c = rw (← c.self.view_is) ((λ is. (keys-none (pairs_of c.self.inside.map)).0 (c.is_empty.ensures.0 is)), (λ e. c.is_empty.ensures.1 ((keys-none (pairs_of c.self.inside.map)).1 e)))
