use Rattle.btree_set.proofs.Common.{◌∙◌, ap, pairs_of, keys_of}
use Rattle.btree_set.proofs.KeyLemmas.{filter-keys}
use Rattle.btree_set.proofs.set.BTreeSet.range_by.Goals as goal

pub returns : goal.returns
returns g c = rw (← c.self.view_is) (ap (λ l. keys_of l) c.range_by.ensures ∙ filter-keys _ (pairs_of c.self.inside.map))
