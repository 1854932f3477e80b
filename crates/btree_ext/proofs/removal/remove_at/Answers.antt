use Rattle.btree_ext.proofs.Common.{◌∙◌, sym, rules, view}
use Rattle.btree_find.proofs.PlaceLemmas.{node-used}
use Rattle.btree_ext.proofs.RemoveAtLemmas.{leaf-settled, vacant-empty}
use Rattle.btree_ext.proofs.LimitLemmas.{removed-within}
use Rattle.btree_ext.proofs.removal.remove_at.Goals as goal

pub root_id-requires : goal.root_id-requires
root_id-requires g c κs = search rules steps 200000

pub returns-in_default-clause-vacant : goal.returns-in_default-clause-vacant
returns-in_default-clause-vacant g c =
    vacant-empty c.args.tree.now c.args.addr g.K.Ord.cmp c.requires.tree (sym c.root_id.ensures ∙ c.in_default.is)

pub take_at-requires-clause-used : goal.take_at-requires-clause-used
take_at-requires-clause-used g c =
    node-used g.K.Ord.cmp g.met.K.Ord.total c.args.tree.now c.requires.tree c.in-Some._root (sym c.root_id.ensures ∙ c.in-Some.is) c.args.addr c.requires.valid

pub settle-at-requires : goal.settle-at-requires
settle-at-requires g c = rw (← c.addr.view_is) (rw (c.in-Leaf.is, ← c.addr.view_is) at c.take_at.ensures).1

pub remove_inner-requires-clause-tree : goal.remove_inner-requires-clause-tree
remove_inner-requires-clause-tree g c = rw (rw c.in-Inner.is at c.take_at.ensures).2 c.requires.tree

pub remove_inner-requires-clause-inner : goal.remove_inner-requires-clause-inner
remove_inner-requires-clause-inner g c = let inner = rw c.in-Inner.is at c.take_at.ensures in rw inner.2 inner.0

pub remove_inner-requires-clause-behind : goal.remove_inner-requires-clause-behind
remove_inner-requires-clause-behind g c = let inner = rw c.in-Inner.is at c.take_at.ensures in rw inner.2 inner.1

pub returns-in-Nothing-clause-vacant : goal.returns-in-Nothing-clause-vacant
returns-in-Nothing-clause-vacant g c = (rw c.in-Nothing.is at c.take_at.ensures).0

pub returns-in-Nothing-clause-unchanged : goal.returns-in-Nothing-clause-unchanged
returns-in-Nothing-clause-unchanged g c = (rw c.in-Nothing.is at c.take_at.ensures).1

pub returns-in-Leaf-clause-removed : goal.returns-in-Leaf-clause-removed
returns-in-Leaf-clause-removed g c =
    rw (← c.addr.view_is) (leaf-settled g.met.K.Ord.total c.requires.tree (rw (c.in-Leaf.is, ← c.addr.view_is) at c.take_at.ensures).0 c.settle-at.ensures.few
    c.settle-at.new.tree c.settle-at.result (rw (← c.addr.view_is) at c.settle-at.ensures.rebalanced))

pub returns-in-Leaf-clause-bounded : goal.returns-in-Leaf-clause-bounded
returns-in-Leaf-clause-bounded g c =
    removed-within g.K.Ord.cmp c.args.tree.now c.settle-at.new.tree (view c.addr.inside) c.settle-at.result c.in-Leaf.item
    (leaf-settled g.met.K.Ord.total c.requires.tree (rw (c.in-Leaf.is, ← c.addr.view_is) at c.take_at.ensures).0 c.settle-at.ensures.few
    c.settle-at.new.tree c.settle-at.result (rw (← c.addr.view_is) at c.settle-at.ensures.rebalanced))

pub returns-in-Inner-clause-removed : goal.returns-in-Inner-clause-removed
returns-in-Inner-clause-removed g c = rw (rw c.in-Inner.is at c.take_at.ensures).2 at c.remove_inner.ensures

pub returns-in-Inner-clause-bounded : goal.returns-in-Inner-clause-bounded
returns-in-Inner-clause-bounded g c =
    removed-within g.K.Ord.cmp c.args.tree.now c.remove_inner.new.tree c.args.addr _ c.remove_inner.result.0 (rw (rw c.in-Inner.is at c.take_at.ensures).2 at c.remove_inner.ensures)
