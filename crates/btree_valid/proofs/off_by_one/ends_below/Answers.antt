use Rattle.btree_valid.proofs.Common.{◌∙◌, ap, option_copied, slice_get, sym, view_of, items_of}
use Rattle.btree_item.proofs.KeyLemmas.{is_lt-from_partial}
use Rattle.btree_view.proofs.EndLemmas.{EndsBelow-last, EndsBelow-none}
use Rattle.btree_valid.proofs.off_by_one.ends_below.Goals as goal

pub returns-in-Some-item_at_index : goal.returns-in-Some-item_at_index
returns-in-Some-item_at_index g c =
    let less = is_lt-from_partial g.met.K.Ord.matches_partial_cmp _ _ _ c.lt.ensures in
    let keyed = rw c.key.ensures at less in
    let at = sym c.item_at_index.ensures.item ∙ ap (slice_get (items_of (view_of c.args.node.now))) c.saturating_sub.ensures in
    EndsBelow-last g.K.Ord.cmp (λ x. x.0) (items_of (view_of c.args.node.now)) c.item_count.result _ _ _ _ _ c.item_count.ensures.value at (ap option_copied c.in-Some.is) (ap option_copied c.in-Some-item_at_index.is) keyed

pub returns-in-None : goal.returns-in-None
returns-in-None g c =
    let at = sym c.item_at_index.ensures.item ∙ ap (slice_get (items_of (view_of c.args.node.now))) c.saturating_sub.ensures in
    EndsBelow-none g.K.Ord.cmp (λ x. x.0) (items_of (view_of c.args.node.now)) c.item_count.result _ _ _ c.item_count.ensures.value at (ap option_copied c.in-Some.is) (ap option_copied c.in-None.is)

pub item_count-requires : goal.item_count-requires
item_count-requires g c = search

pub item_at_index-requires : goal.item_at_index-requires
item_at_index-requires g c = search
