use Rattle.btree_set.proofs.Common.{◌∙◌, ap, option_map, sym, pairs_of, keys_of}
use Rattle.btree_set.proofs.KeyLemmas.{absent-keys, gap-refused, replaced-keys, stored-keys}
use Rattle.btree_set.proofs.set.BTreeSet.replace.Goals as goal

pub returns-in-Ok-clause-old : goal.returns-in-Ok-clause-old
returns-in-Ok-clause-old g c = rw (← c.self.view_is) (c.first_of.ensures ∙ ap (option_map (λ p. p.0)) c.in-Ok.ensures.old ∙ sym (stored-keys g.T.Ord.cmp c.args.element (pairs_of c.self.inside.map)))

pub returns-in-Ok-clause-replaced : goal.returns-in-Ok-clause-replaced
returns-in-Ok-clause-replaced g c = rw (← c.self.view_is) (ap (λ l. keys_of l) c.in-Ok.ensures.replaced ∙ replaced-keys g.T.Ord.cmp c.args.element (pairs_of c.self.inside.map) tt)

pub returns-in-Err-clause-absent : goal.returns-in-Err-clause-absent
returns-in-Err-clause-absent g c = rw (← c.self.view_is) (absent-keys g.T.Ord.cmp c.args.element (pairs_of c.self.inside.map) c.in-Err.ensures.absent)

pub returns-in-Err-clause-cause : goal.returns-in-Err-clause-cause
returns-in-Err-clause-cause g c = rw (← c.self.view_is) (gap-refused g.C.NodesMut.MayRefuse g.T.Ord.cmp c.args.element c.self.inside.map c.replace.new.self c.in-Err.refused.cause c.in-Err.ensures.cause)

pub returns-in-Ok-clause-nodes : goal.returns-in-Ok-clause-nodes
returns-in-Ok-clause-nodes g c = rw (← c.self.view_is) c.in-Ok.ensures.replaced_by_key
