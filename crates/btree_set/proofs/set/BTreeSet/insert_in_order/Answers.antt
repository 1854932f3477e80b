use Rattle.btree_set.proofs.Common.{◌∙◌, IfSome, ap, subst, sym, keys_of, pairs_of, IsLastPair, SetState}
use Rattle.btree_map.specs.Ascending.{GoesLast}
use Rattle.btree_set.proofs.KeyLemmas.{absent-keys, gap-refused, inserted-keys}
use Rattle.btree_set.proofs.set.BTreeSet.insert_in_order.Goals as goal

pub insert_in_order-requires : goal.insert_in_order-requires
insert_in_order-requires g c = subst (λ (s : SetState _). IfSome c.args.last (IsLastPair s.tree)) (sym c.self.view_is) c.requires

pub returns-in-Ok-clause-inserted : goal.returns-in-Ok-clause-inserted
returns-in-Ok-clause-inserted g c = rw (← c.self.view_is) (ap (λ l. keys_of l) c.in-Ok.ensures.inserted ∙ inserted-keys g.T.Ord.cmp c.args.element (pairs_of c.self.inside.map) tt)

pub returns-in-Err-clause-absent : goal.returns-in-Err-clause-absent
returns-in-Err-clause-absent g c = rw (← c.self.view_is) (absent-keys g.T.Ord.cmp c.args.element (pairs_of c.self.inside.map) c.in-Err.ensures.absent)

pub returns-in-Err-clause-cause : goal.returns-in-Err-clause-cause
returns-in-Err-clause-cause g c = rw (← c.self.view_is) (gap-refused g.C.NodesMut.MayRefuse g.T.Ord.cmp c.args.element c.self.inside.map c.insert_in_order.new.map c.in-Err.refused.cause c.in-Err.ensures.cause)

pub returns-in-Ok-clause-known : goal.returns-in-Ok-clause-known
returns-in-Ok-clause-known g c = λ goes.
    c.in-Ok.ensures.known (subst (λ (s : SetState _). GoesLast g.T.Ord.cmp c.args.element c.args.last s.tree) (sym c.self.view_is) goes)
