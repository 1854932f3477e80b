use Rattle.btree_set.proofs.Common.{◌∙◌, ap, option_map, sym, pairs_of}
use Rattle.btree_set.proofs.KeyLemmas.{stored-keys}
use Rattle.btree_set.proofs.set.BTreeSet.get_by.Goals as goal

pub returns-in-Some : goal.returns-in-Some
returns-in-Some g c = rw (← c.self.view_is) (ap (option_map (λ p. p.0)) c.in-Some.ensures ∙ sym (stored-keys g.Q.Query.compare c.args.query.now (pairs_of c.self.inside.map)))

pub returns-in-None : goal.returns-in-None
returns-in-None g c = rw (← c.self.view_is) (ap (option_map (λ p. p.0)) c.in-None.ensures ∙ sym (stored-keys g.Q.Query.compare c.args.query.now (pairs_of c.self.inside.map)))
