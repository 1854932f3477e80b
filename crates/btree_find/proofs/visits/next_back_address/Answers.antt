use Rattle.btree_find.proofs.Common.{Some, ◌∙◌, arith, sym, view}
use Rattle.btree_find.proofs.VisitsLemmas.{back-at, back-before, back-empty}
use Rattle.btree_find.proofs.PlaceLemmas.{node-used, within-node}
use Rattle.btree_find.proofs.WalkLemmas.{address-is}
use Rattle.btree_find.proofs.visits.next_back_address.Goals as goal

pub returns-in_default : goal.returns-in_default
returns-in_default g c = back-empty g.K.Ord.cmp g.met.K.Ord.total c.args.tree.now c.requires.tree c.args.addr c.requires.valid (sym c.root_id.ensures ∙ c.in_default.is)

pub node-requires : goal.node-requires
node-requires g c = (c.tell_fits.ensures, node-used g.K.Ord.cmp g.met.K.Ord.total c.args.tree.now c.requires.tree c.in-Some._root (sym c.root_id.ensures ∙ c.in-Some.is) (view c.addr.inside) (rw (← c.addr.view_is) at c.requires.valid))

pub back_after-requires : goal.back_after-requires
back_after-requires g c = (
  c.tell_fits.ensures,
  (c.requires.tree, (c.node.ensures.value, within-node g.K.Ord.cmp g.met.K.Ord.total c.args.tree.now c.requires.tree c.in-Some._root (sym c.root_id.ensures ∙ c.in-Some.is) (view c.addr.inside) (rw (← c.addr.view_is) at c.requires.valid) c.node.result.now c.node.ensures.value c.in-Some-value.offset (sym c.value.ensures.value ∙ c.in-Some-value.is))),
)

pub leftmost_leaf-requires-clause-used : goal.leftmost_leaf-requires-clause-used
leftmost_leaf-requires-clause-used g c = node-used g.K.Ord.cmp g.met.K.Ord.total c.args.tree.now c.requires.tree c.in-Some._root (sym c.root_id.ensures ∙ c.in-Some.is) (view c.addr.inside) (rw (← c.addr.view_is) at c.requires.valid)

pub returns-in-Some-value : goal.returns-in-Some-value
returns-in-Some-value g c = rw (← c.addr.view_is) (back-at g.K.Ord.cmp g.met.K.Ord.total c.args.tree.now c.requires.tree (view c.addr.inside) (rw (← c.addr.view_is) at c.requires.valid) (Some c.in-Some-value.offset) (sym c.value.ensures.value ∙ c.in-Some-value.is) c.back_after.result c.back_after.ensures)

pub returns-in-None : goal.returns-in-None
returns-in-None g c =
    rw (← c.addr.view_is) (back-before g.K.Ord.cmp g.met.K.Ord.total c.args.tree.now c.requires.tree (view c.addr.inside) (rw (← c.addr.view_is) at c.requires.valid) (sym c.value.ensures.value ∙ c.in-None.is) c.in-Some._root (sym c.root_id.ensures ∙ c.in-Some.is) c.leftmost_leaf.result c.leftmost_leaf.ensures c.new.result
    (address-is c.new.result c.leftmost_leaf.result 0 c.from.result (omega arith) c.from.ensures c.new.ensures))
