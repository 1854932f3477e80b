use Rattle.btree_set.proofs.Common.{◌∙◌, refl, pairs_of}
use Rattle.btree_set.proofs.KeyLemmas.{order-keys}
use Rattle.btree_set.proofs.set.BTreeSet.compare_items.Goals as goal

pub returns : goal.returns
returns g c = rw (← c.self.view_is, ← c.other.view_is) (c.compare_items.ensures ∙ order-keys g.T.Ord.cmp _ (λ a b. refl) (pairs_of c.self.inside.map) (pairs_of c.other.inside.map))
