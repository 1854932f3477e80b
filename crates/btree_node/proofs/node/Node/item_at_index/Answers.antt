use Rattle.btree_node.proofs.Common.{◌<◌, ap, sym, ◌∙◌, arith, rules, view_of, items_of, common_steps}
use Rattle.std.proofs.lemmas.Option.{slice_get_past}
use Rattle.btree_view.specs.View.{item_at_offset}
use Rattle.btree_node.proofs.RoomLemmas.{on-some}
use Rattle.btree_node.proofs.node.Node.item_at_index.Goals as goal

pub returns-then-index-item_count-clause-item : goal.returns-then-index-item_count-clause-item
returns-then-index-item_count-clause-item g c =
    slice_get_past (items_of (view_of c.args.self.now)) c.args.index (omega (arith, c.item_count.ensures.value, c.if-index-item_count.true))

pub returns-clause-fits : goal.returns-clause-fits
returns-clause-fits g c = on-some c.item.result (c.args.index < 9) (omega (arith, c.item_count.ensures.fits, c.if-index-item_count.false))

pub returns-clause-item : goal.returns-clause-item
returns-clause-item g c = sym (c.item.ensures ∙ ap (item_at_offset (view_of c.args.self.now)) c.offset_at.ensures)

pub item_count-requires : goal.item_count-requires
item_count-requires g c = assumption

pub returns-then-index-item_count-clause-fits : goal.returns-then-index-item_count-clause-fits
returns-then-index-item_count-clause-fits g c = search rules steps 200000

pub offset_at-requires : goal.offset_at-requires
offset_at-requires g c = grind (arith, common_steps) steps 300000

pub item-requires : goal.item-requires
item-requires g c = assumption
