use Rattle.btree_set.proofs.Common.{◌∙◌, ap, option_map, sym, keys_of, pairs_of}
use Rattle.btree_set.proofs.KeyLemmas.{removed-keys, stored-keys, taken-nodes-by}
use Rattle.btree_set.proofs.set.BTreeSet.take_by.Goals as goal

pub returns-clause-element : goal.returns-clause-element
returns-clause-element g c = rw (← c.self.view_is) (c.first_of.ensures ∙ ap (option_map (λ p. p.0)) c.remove_entry_by.ensures.entry ∙ sym (stored-keys g.Q.Query.compare c.args.query.now (pairs_of c.self.inside.map)))

pub returns-clause-removed : goal.returns-clause-removed
returns-clause-removed g c = rw (← c.self.view_is) (ap keys_of c.remove_entry_by.ensures.removed ∙ removed-keys g.Q.Query.compare c.args.query.now (pairs_of c.self.inside.map))

pub returns-clause-nodes : goal.returns-clause-nodes
returns-clause-nodes g c = rw (← c.self.view_is) (taken-nodes-by g.T.Ord.cmp g.Q.Query.compare c.args.query.now c.remove_entry_by.result c.self.inside.map c.remove_entry_by.new.self c.remove_entry_by.ensures.entry c.remove_entry_by.ensures.removed_by c.remove_entry_by.ensures.unchanged)
