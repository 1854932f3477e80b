use Rattle.btree_find.proofs.Common.{Some, None, ◌∙◌, sym, view}
use Rattle.btree_find.proofs.VisitsLemmas.{front-at, front-empty}
use Rattle.btree_find.proofs.PlaceLemmas.{node-used, within-node}
use Rattle.btree_find.proofs.visits.previous_front_address.Goals as goal

pub returns-in_default : goal.returns-in_default
returns-in_default g c = front-empty g.K.Ord.cmp g.met.K.Ord.total c.args.tree.now c.requires.tree c.args.addr c.requires.valid (sym c.root_id.ensures ∙ c.in_default.is)

pub node-node-requires : goal.node-node-requires
node-node-requires g c = (c.tell_fits.ensures, node-used g.K.Ord.cmp g.met.K.Ord.total c.args.tree.now c.requires.tree c.in-Some._root (sym c.root_id.ensures ∙ c.in-Some.is) (view c.addr.inside) (rw (← c.addr.view_is) at c.requires.valid))

pub front_before-requires : goal.front_before-requires
front_before-requires g c = (
  c.tell_fits.ensures,
  (c.requires.tree, (c.node-node.ensures.value, within-node g.K.Ord.cmp g.met.K.Ord.total c.args.tree.now c.requires.tree c.in-Some._root (sym c.root_id.ensures ∙ c.in-Some.is) (view c.addr.inside) (rw (← c.addr.view_is) at c.requires.valid) c.node-node.result.now c.node-node.ensures.value c.in-Some-value.offset (sym c.value.ensures.value ∙ c.in-Some-value.is))),
)

pub returns-in-Some-value : goal.returns-in-Some-value
returns-in-Some-value g c = rw (← c.addr.view_is) (front-at g.K.Ord.cmp g.met.K.Ord.total c.args.tree.now c.requires.tree (view c.addr.inside) (rw (← c.addr.view_is) at c.requires.valid) (Some c.in-Some-value.offset) (sym c.value.ensures.value ∙ c.in-Some-value.is) (Some c.front_before.result) c.front_before.ensures)

pub returns-in-None : goal.returns-in-None
returns-in-None g c = rw (← c.addr.view_is) (front-at g.K.Ord.cmp g.met.K.Ord.total c.args.tree.now c.requires.tree (view c.addr.inside) (rw (← c.addr.view_is) at c.requires.valid) None (sym c.value.ensures.value ∙ c.in-None.is) c.front_above.result c.front_above.ensures)
