use Rattle.btree_find.proofs.Common.{Some, None, ◌∙◌, sym, view}
use Rattle.btree_find.proofs.PlaceLemmas.{empty-leads, node-used, normalized, normalized-at, within-node}
use Rattle.btree_find.proofs.navigation.normalize.Goals as goal

pub returns-in_default : goal.returns-in_default
returns-in_default g c = normalized g.K.Ord.cmp g.met.K.Ord.total c.args.tree.now c.requires.tree c.args.addr c.requires.valid _ (empty-leads g.K.Ord.cmp g.met.K.Ord.total c.args.tree.now c.requires.tree c.args.addr c.requires.valid (sym c.root_id.ensures ∙ c.in_default.is))

pub node-requires : goal.node-requires
node-requires g c = (c.tell_fits.ensures, node-used g.K.Ord.cmp g.met.K.Ord.total c.args.tree.now c.requires.tree c.in-Some._root (sym c.root_id.ensures ∙ c.in-Some.is) (view c.addr.inside) (rw (← c.addr.view_is) at c.requires.valid))

pub item_from-requires : goal.item_from-requires
item_from-requires g c = (
  c.tell_fits.ensures,
  (c.requires.tree, (c.node.ensures.value, within-node g.K.Ord.cmp g.met.K.Ord.total c.args.tree.now c.requires.tree c.in-Some._root (sym c.root_id.ensures ∙ c.in-Some.is) (view c.addr.inside) (rw (← c.addr.view_is) at c.requires.valid) c.node.result.now c.node.ensures.value c.in-Some-value.offset (sym c.value.ensures.value ∙ c.in-Some-value.is))),
)

pub first_item-requires-clause-used : goal.first_item-requires-clause-used
first_item-requires-clause-used g c = node-used g.K.Ord.cmp g.met.K.Ord.total c.args.tree.now c.requires.tree c.in-Some._root (sym c.root_id.ensures ∙ c.in-Some.is) (view c.addr.inside) (rw (← c.addr.view_is) at c.requires.valid)

pub returns-in-Some-value : goal.returns-in-Some-value
returns-in-Some-value g c = rw (← c.addr.view_is) (normalized-at g.K.Ord.cmp g.met.K.Ord.total c.args.tree.now c.requires.tree (view c.addr.inside) (rw (← c.addr.view_is) at c.requires.valid) (Some c.in-Some-value.offset) (sym c.value.ensures.value ∙ c.in-Some-value.is) c.item_from.result c.item_from.ensures)

pub returns-in-None : goal.returns-in-None
returns-in-None g c = rw (← c.addr.view_is) (normalized-at g.K.Ord.cmp g.met.K.Ord.total c.args.tree.now c.requires.tree (view c.addr.inside) (rw (← c.addr.view_is) at c.requires.valid) None (sym c.value.ensures.value ∙ c.in-None.is) (Some c.first_item.result) c.first_item.ensures)
