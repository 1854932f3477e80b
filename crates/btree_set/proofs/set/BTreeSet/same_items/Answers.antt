use Rattle.btree_set.proofs.Common.{◌∙◌, refl, pairs_of}
use Rattle.btree_set.proofs.KeyLemmas.{same-keys}
use Rattle.btree_set.proofs.set.BTreeSet.same_items.Goals as goal

pub returns : goal.returns
returns g c = rw (← c.self.view_is, ← c.other.view_is) (c.same_items.ensures ∙ same-keys g.T.PartialEq.eq _ (λ a b. refl) (pairs_of c.self.inside.map) (pairs_of c.other.inside.map))
