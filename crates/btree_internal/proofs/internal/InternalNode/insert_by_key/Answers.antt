use Rattle.btree_internal.proofs.LookUpLemmas.{not-past}
use Rattle.btree_internal.proofs.Common.{items_of, ap, ◌∙◌, sym, Some, arith, internal_view, internal_with_value_at}
use Rattle.btree_item.proofs.PairLemmas.{before-from_Ok}
use Rattle.btree_internal.proofs.InsertionLemmas.{inserted-view}
use Rattle.btree_internal.proofs.internal.InternalNode.insert_by_key.Goals as goal

pub returns-in-Some-clause-after : goal.returns-in-Some-clause-after
returns-in-Some-clause-after g c =
    ap (λ w. internal_view (internal_with_value_at c.in-Ok.index c.args.self.now w)) c.replace.ensures.after
    ∙ inserted-view g.K.Ord.cmp g.met.K.Ord.total c.args.self.now c.args.key c.in-Ok.index _ c.args.value c.requires c.in-Ok.ensures.place c.in-Ok.ensures.here c.in-Some.ensures.value

pub returns-in-Some-clause-offset : goal.returns-in-Some-clause-offset
returns-in-Some-clause-offset g c = c.offset_at.ensures ∙ ap Some (sym (before-from_Ok g.K.Ord.cmp c.args.key _ _ (sym c.in-Ok.ensures.place)))

pub unreachable-requires : goal.unreachable-requires
unreachable-requires g c = not-past (λ x. x.1) (items_of (internal_view c.args.self.now)) c.in-Ok.index (omega (arith, c.in-Ok.ensures.sized, c.in-Ok.ensures.within)) c.in-None.ensures.value
