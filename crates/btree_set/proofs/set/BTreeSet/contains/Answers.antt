use Rattle.btree_set.proofs.Common.{pairs_of}
use Rattle.btree_set.proofs.KeyLemmas.{some-keys}
use Rattle.btree_set.proofs.set.BTreeSet.contains.Goals as goal

pub returns : goal.returns
returns g c = rw (← c.self.view_is) ((λ is. (some-keys g.T.Ord.cmp c.args.element.now (pairs_of c.self.inside.map)).0 (c.contains_key.ensures.0 is)), (λ is. c.contains_key.ensures.1 ((some-keys g.T.Ord.cmp c.args.element.now (pairs_of c.self.inside.map)).1 is)))
