use Rattle.btree_ext.proofs.Common.{refl, TreeState, with_node, view}
use Rattle.btree_raw.proofs.PlacedLemmas.{but-length}
use Rattle.btree_ext.specs.Taken.{TakesInner}
use Rattle.btree_ext.proofs.RemoveAtLemmas.{beside, left-used, right-leads}
use Rattle.btree_ext.proofs.RemoveInnerLemmas.{has-item, inner-lost, inner-still, is-inner}
use Rattle.btree_ext.proofs.taken.take_inner.Goals as goal

pub first_item_beside-next-requires-clause-beside : goal.first_item_beside-next-requires-clause-beside
first_item_beside-next-requires-clause-beside g c = beside g.K.Ord.cmp g.met.K.Ord.total c.args.tree.now c.requires.tree c.args.addr c.args.left c.requires.inner c.args.right c.requires.behind

pub take_last_below-last-requires-clause-tree : goal.take_last_below-last-requires-clause-tree
take_last_below-last-requires-clause-tree g c = but-length g.K.Ord.cmp c.args.tree.now c.requires.tree

pub take_last_below-last-requires-clause-used : goal.take_last_below-last-requires-clause-used
take_last_below-last-requires-clause-used g c = left-used g.K.Ord.cmp g.met.K.Ord.total c.args.tree.now c.requires.tree c.args.addr c.args.left c.requires.inner

pub node_mut-requires : goal.node_mut-requires
node_mut-requires g c = (c.tell_fits.ensures, inner-still g.met.K.Ord.total c.requires.tree (rw (← c.addr.view_is) at c.requires.inner) c.take_last_below-last.ensures.taken)

pub replace-item-requires : goal.replace-item-requires
replace-item-requires g c = (
  c.tell_fits.ensures,
  (
    is-inner g.met.K.Ord.total c.requires.tree (rw (← c.addr.view_is) at c.requires.inner) c.take_last_below-last.ensures.taken c.node_mut.result.now c.node_mut.ensures.value,
    has-item g.met.K.Ord.total c.requires.tree (rw (← c.addr.view_is) at c.requires.inner) c.take_last_below-last.ensures.taken c.node_mut.result.now c.node_mut.ensures.value,
  ),
)

pub returns-clause-taken : goal.returns-clause-taken
returns-clause-taken g c = rw (← c.addr.view_is) record {
  last = c.take_last_below-last.result.0;
  taken = c.take_last_below-last.new.tree;
  takes = c.take_last_below-last.ensures.taken;
  node = c.node_mut.result.now;
  at = c.node_mut.ensures.value;
  item = c.replace-item.ensures.answer;
  kept = c.replace-item.new.self;
  replaced = c.replace-item.ensures.after;
  after = refl;
}

pub returns-clause-lost : goal.returns-clause-lost
returns-clause-lost g c =
    let mid : TreeState _ _ = with_node c.take_last_below-last.new.tree c.addr.inside.id c.replace-item.new.self in
    let t : TakesInner c.args.tree.now mid (view c.addr.inside) c.args.left c.replace-item.result c.take_last_below-last.result.1 =
    record {
      last = c.take_last_below-last.result.0;
      taken = c.take_last_below-last.new.tree;
      takes = c.take_last_below-last.ensures.taken;
      node = c.node_mut.result.now;
      at = c.node_mut.ensures.value;
      item = c.replace-item.ensures.answer;
      kept = c.replace-item.new.self;
      replaced = c.replace-item.ensures.after;
      after = refl;
    } in
    let behind = right-leads g.K.Ord.cmp g.met.K.Ord.total c.args.tree.now c.requires.tree (view c.addr.inside) c.args.left (rw (← c.addr.view_is) at c.requires.inner)
    c.args.right (rw (← c.addr.view_is) at c.requires.behind) c.first_item_beside-next.result c.first_item_beside-next.ensures in
    λ few. inner-lost g.met.K.Ord.total c.requires.tree (rw (← c.addr.view_is) at c.requires.inner) t few c.first_item_beside-next.result behind
    c.take_last_below-last.result.2 c.take_last_below-last.ensures.count c.take_last_below-last.result.3 c.take_last_below-last.ensures.parent

pub returns-clause-behind : goal.returns-clause-behind
returns-clause-behind g c =
    right-leads g.K.Ord.cmp g.met.K.Ord.total c.args.tree.now c.requires.tree c.args.addr c.args.left c.requires.inner c.args.right c.requires.behind
    c.first_item_beside-next.result c.first_item_beside-next.ensures
