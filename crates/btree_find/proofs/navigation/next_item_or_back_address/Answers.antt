use Rattle.btree_find.proofs.Common.{◌+◌, ◌∙◌, arith, sym, view}
use Rattle.btree_find.proofs.OrBackLemmas.{or-after, or-empty, or-first, or-next, or-stays}
use Rattle.btree_find.proofs.PlaceLemmas.{node-used, within-node}
use Rattle.btree_find.proofs.WalkLemmas.{address-is}
use Rattle.btree_find.proofs.navigation.next_item_or_back_address.Goals as goal

pub returns-in_default : goal.returns-in_default
returns-in_default g c = or-empty g.K.Ord.cmp g.met.K.Ord.total c.args.tree.now c.requires.tree c.args.addr c.requires.valid (sym c.root_id.ensures ∙ c.in_default.is)

pub first_item-requires-clause-used : goal.first_item-requires-clause-used
first_item-requires-clause-used g c = node-used g.K.Ord.cmp g.met.K.Ord.total c.args.tree.now c.requires.tree c.in-Some._root (sym c.root_id.ensures ∙ c.in-Some.is) (view c.addr.inside) (rw (← c.addr.view_is) at c.requires.valid)

pub returns-in_default-value : goal.returns-in_default-value
returns-in_default-value g c = rw (← c.addr.view_is) (or-first g.K.Ord.cmp g.met.K.Ord.total c.args.tree.now c.requires.tree (view c.addr.inside) (rw (← c.addr.view_is) at c.requires.valid) (sym c.value.ensures.value ∙ c.in_default-value.is) c.first_item.result c.first_item.ensures)

pub node-node-requires : goal.node-node-requires
node-node-requires g c = (c.tell_fits.ensures, node-used g.K.Ord.cmp g.met.K.Ord.total c.args.tree.now c.requires.tree c.in-Some._root (sym c.root_id.ensures ∙ c.in-Some.is) (view c.addr.inside) (rw (← c.addr.view_is) at c.requires.valid))

pub item_after-requires : goal.item_after-requires
item_after-requires g c = (
  c.tell_fits.ensures,
  (c.requires.tree, (c.node-node.ensures.value, within-node g.K.Ord.cmp g.met.K.Ord.total c.args.tree.now c.requires.tree c.in-Some._root (sym c.root_id.ensures ∙ c.in-Some.is) (view c.addr.inside) (rw (← c.addr.view_is) at c.requires.valid) c.node-node.result.now c.node-node.ensures.value c.in-Some-value.offset (sym c.value.ensures.value ∙ c.in-Some-value.is))),
)

pub item_count-requires : goal.item_count-requires
item_count-requires g c = c.tell_fits.ensures

pub returns-in-Some-item_after : goal.returns-in-Some-item_after
returns-in-Some-item_after g c = rw (← c.addr.view_is) (or-next g.K.Ord.cmp g.met.K.Ord.total c.args.tree.now c.requires.tree (view c.addr.inside) (rw (← c.addr.view_is) at c.requires.valid) c.in-Some-value.offset (sym c.value.ensures.value ∙ c.in-Some-value.is) c.item_after.result c.item_after.ensures c.in-Some-item_after.next c.in-Some-item_after.is)

pub returns-then-offset-item_count : goal.returns-then-offset-item_count
returns-then-offset-item_count g c =
    rw (← c.addr.view_is) (let n = c.item_count.ensures.value in
    let f = c.item_count.ensures.fits in
    let l = c.if-offset-item_count.true in
    or-after g.K.Ord.cmp g.met.K.Ord.total c.args.tree.now c.requires.tree (view c.addr.inside) (rw (← c.addr.view_is) at c.requires.valid) c.in-Some-value.offset (sym c.value.ensures.value ∙ c.in-Some-value.is) c.item_after.result c.item_after.ensures c.in_default-item_after.is c.node-node.result.now c.node-node.ensures.value (omega arith) c.new.result
    (address-is c.new.result c.addr.inside.id (c.in-Some-value.offset + 1) c.from.result (omega arith) c.from.ensures c.new.ensures))

pub returns : goal.returns
returns g c = rw (← c.addr.view_is) (or-stays g.K.Ord.cmp g.met.K.Ord.total c.args.tree.now c.requires.tree (view c.addr.inside) (rw (← c.addr.view_is) at c.requires.valid) c.in-Some-value.offset (sym c.value.ensures.value ∙ c.in-Some-value.is) c.item_after.result c.item_after.ensures c.in_default-item_after.is c.node-node.result.now c.node-node.ensures.value (let n = c.item_count.ensures.value in let l = c.if-offset-item_count.false in omega arith))
