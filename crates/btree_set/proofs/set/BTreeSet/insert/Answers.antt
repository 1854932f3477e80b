use Rattle.btree_set.proofs.Common.{◌∙◌, ap, pairs_of, keys_of}
use Rattle.btree_set.proofs.KeyLemmas.{absent-keys, gap-refused, inserted-keys, new-keys}
use Rattle.btree_set.proofs.set.BTreeSet.insert.Goals as goal

pub returns-in-Ok-clause-new : goal.returns-in-Ok-clause-new
returns-in-Ok-clause-new g c = rw (← c.self.view_is) (new-keys g.T.Ord.cmp c.args.element (pairs_of c.self.inside.map) c.in-Ok.replaced c.is_none.result c.in-Ok.ensures.old c.is_none.ensures)

pub returns-in-Ok-clause-inserted : goal.returns-in-Ok-clause-inserted
returns-in-Ok-clause-inserted g c = rw (← c.self.view_is) (ap (λ l. keys_of l) c.in-Ok.ensures.inserted ∙ inserted-keys g.T.Ord.cmp c.args.element (pairs_of c.self.inside.map) tt)

pub returns-in-Err-clause-absent : goal.returns-in-Err-clause-absent
returns-in-Err-clause-absent g c = rw (← c.self.view_is) (absent-keys g.T.Ord.cmp c.args.element (pairs_of c.self.inside.map) c.in-Err.ensures.absent)

pub returns-in-Err-clause-cause : goal.returns-in-Err-clause-cause
returns-in-Err-clause-cause g c = rw (← c.self.view_is) (gap-refused g.C.NodesMut.MayRefuse g.T.Ord.cmp c.args.element c.self.inside.map c.insert.new.self c.in-Err.refused.cause c.in-Err.ensures.cause)

pub returns-in-Ok-clause-nodes : goal.returns-in-Ok-clause-nodes
returns-in-Ok-clause-nodes g c = rw (← c.self.view_is) c.in-Ok.ensures.inserted_by_key
