use Rattle.btree_set.proofs.Common.{◌∙◌, refl, pairs_of}
use Rattle.btree_set.proofs.KeyLemmas.{partial-keys}
use Rattle.btree_set.proofs.comparison.BTreeSetPartialOrd.partial_cmp.Goals as goal

pub returns : goal.returns
returns g c = rw (← c.self.view_is, ← c.other.view_is) (c.partial_cmp.ensures ∙ partial-keys g.T.PartialOrd.partial_cmp _ (λ a b. refl) (pairs_of c.self.inside.map) (pairs_of c.other.inside.map))
