use Rattle.btree_find.proofs.Common.{Some, arith}
use Rattle.btree_find.proofs.NextLemmas.{child-used, next-along, next-below, next-past}
use Rattle.btree_find.proofs.navigation.item_after.Goals as goal

pub item_count-requires : goal.item_count-requires
item_count-requires g c = c.tell_fits.ensures

pub returns-then-offset-item_count : goal.returns-then-offset-item_count
returns-then-offset-item_count g c =
    let n = c.item_count.ensures.value in
    let l = c.if-offset-item_count.true in
    next-past g.K.Ord.cmp g.met.K.Ord.total c.args.tree.now c.requires.tree c.args.id c.args.offset c.args.node.now c.requires.node (omega arith) c.item_from.result c.item_from.ensures

pub first_item-requires-clause-used : goal.first_item-requires-clause-used
first_item-requires-clause-used g c = child-used g.K.Ord.cmp g.met.K.Ord.total c.args.tree.now c.requires.tree c.args.id c.args.offset c.args.node.now c.requires.node (let n = c.item_count.ensures.value in let l = c.if-offset-item_count.false in omega arith) c.in-Some.child c.in-Some.ensures

pub returns-in-Some : goal.returns-in-Some
returns-in-Some g c = next-below g.K.Ord.cmp g.met.K.Ord.total c.args.tree.now c.requires.tree c.args.id c.args.offset c.args.node.now c.requires.node (let n = c.item_count.ensures.value in let l = c.if-offset-item_count.false in omega arith) c.in-Some.child c.in-Some.ensures (Some c.first_item.result) c.first_item.ensures

pub returns-in-None : goal.returns-in-None
returns-in-None g c = next-along g.K.Ord.cmp g.met.K.Ord.total c.args.tree.now c.requires.tree c.args.id c.args.offset c.args.node.now c.requires.node (let n = c.item_count.ensures.value in let l = c.if-offset-item_count.false in omega arith) c.in-None.ensures c.item_from-in-None.result c.item_from-in-None.ensures

pub child_id_opt-requires : goal.child_id_opt-requires
child_id_opt-requires g c = c.tell_fits.ensures

pub item_from-requires : goal.item_from-requires
item_from-requires g c = (c.tell_fits.ensures, (c.requires.tree, (c.requires.node, c.requires.within)))

pub item_from-requires-in-None : goal.item_from-requires-in-None
item_from-requires-in-None g c = (
  c.tell_fits.ensures,
  (c.requires.tree, (c.requires.node, let n = c.item_count.ensures.value in let l = c.if-offset-item_count.false in omega arith)),
)
