use Rattle.btree_set.proofs.Common.{◌∙◌, ap, option_map, sym, keys_of, pairs_of}
use Rattle.btree_set.proofs.KeyLemmas.{removed-keys, stored-keys, taken-nodes}
use Rattle.btree_set.proofs.set.BTreeSet.take.Goals as goal

pub returns-clause-element : goal.returns-clause-element
returns-clause-element g c = rw (← c.self.view_is) (c.first_of.ensures ∙ ap (option_map (λ p. p.0)) c.remove_entry.ensures.entry ∙ sym (stored-keys g.T.Ord.cmp c.args.element.now (pairs_of c.self.inside.map)))

pub returns-clause-removed : goal.returns-clause-removed
returns-clause-removed g c = rw (← c.self.view_is) (ap keys_of c.remove_entry.ensures.removed ∙ removed-keys g.T.Ord.cmp c.args.element.now (pairs_of c.self.inside.map))

pub returns-clause-nodes : goal.returns-clause-nodes
returns-clause-nodes g c = rw (← c.self.view_is) (taken-nodes g.T.Ord.cmp c.args.element.now c.remove_entry.result c.self.inside.map c.remove_entry.new.self c.remove_entry.ensures.entry c.remove_entry.ensures.removed_by_key c.remove_entry.ensures.unchanged)
