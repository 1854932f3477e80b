use Rattle.btree_set.proofs.Common.{◌∙◌, ap, keys_of, pairs_of, set_of}
use Rattle.btree_set.proofs.KeyLemmas.{filter-keys, same-units}
use Rattle.btree_set.proofs.set.BTreeSet.remove_range.Goals as goal

pub returns-clause-elements : goal.returns-clause-elements
returns-clause-elements g c = rw (← c.self.view_is) (ap (λ l. keys_of l) c.remove_range.ensures.pairs ∙ filter-keys _ (pairs_of c.self.inside.map))

pub returns-clause-unchanged : goal.returns-clause-unchanged
returns-clause-unchanged g c same =
    let elements = rw (← c.self.view_is) at same in
    ap set_of (c.remove_range.ensures.unchanged (same-units _ _ elements)) ∙ c.self.view_is

pub returns-clause-frees : goal.returns-clause-frees
returns-clause-frees g c = rw (← c.self.view_is) c.remove_range.ensures.frees
