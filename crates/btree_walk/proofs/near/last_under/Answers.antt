use Rattle.btree_walk.proofs.Common.{[], ap, subst, sym, ◌∙◌, view_of, fits-internal, fits-leaf, rises, bound_key, IsLast, list_under, pair_now}
use Rattle.std.specs.FinMap as map
use Rattle.btree_walk.proofs.NearLemmas.{map-or, search-start, within}
use Rattle.btree_walk.proofs.NearRowLemmas.{down-after, down-after-lower, down-ends, down-first, down-first-lower}
use Rattle.btree_walk.proofs.WalkLemmas.{under-used}
use Rattle.btree_walk.proofs.near.last_under.Goals as goal

pub loop-leaf-init : goal.loop-leaf-init
loop-leaf-init g c = record {
  depth = c.requires.under.0;
  under = c.requires.under.1;
  rest = [];
  search = search-start g.met.K.Ord.total (bound_key c.args.end) (list_under c.args.tree.now c.args.top);
  out = tt;
}

pub node-node-requires : goal.node-node-requires
node-node-requires g c = (c.tell_fits.ensures, under-used c.args.tree.now.nodes (map.len c.args.tree.now.nodes) _ c.loop-leaf.id c.loop-leaf.invariant.under)

pub last_of_leaf-requires : goal.last_of_leaf-requires
last_of_leaf-requires g c = search fits-leaf

pub first_child_id-id-requires : goal.first_child_id-id-requires
first_child_id-id-requires g c = search fits-internal

pub returns-in-Leaf : goal.returns-in-Leaf
returns-in-Leaf g c =
    let ends = down-ends g.met.K.Ord.total (bound_key c.args.end) c.args.tree.now (list_under c.args.tree.now c.args.top) (rises g.K.Ord.cmp (list_under c.args.tree.now c.args.top) c.requires.rises) (pair_now c.loop-leaf.last) c.loop-leaf.id c.loop-leaf.invariant c.node-node.result.now c.node-node.ensures
    c.in-Leaf.leaf.parent c.in-Leaf.leaf.items (ap view_of c.in-Leaf.is) (pair_now c.last_of_leaf.result.0) c.last_of_leaf.result.1 c.last_of_leaf.ensures in
    subst (λ o. IsLast (within g.met.K.Ord.total (bound_key c.args.end) (list_under c.args.tree.now c.args.top)) o)
    (sym (ap pair_now c.or.ensures ∙ map-or (λ p. (p.0.now, p.1.now)) c.last_of_leaf.result.0 c.loop-leaf.last)) ends

pub loop-leaf-preserved-in-Some : goal.loop-leaf-preserved-in-Some
loop-leaf-preserved-in-Some g c =
    let cut = rw (c.in-Internal.is, c.in-Some.is) at c.last_of_row.ensures in
    down-after g.met.K.Ord.total (bound_key c.args.end) c.args.tree.now (list_under c.args.tree.now c.args.top) (rises g.K.Ord.cmp (list_under c.args.tree.now c.args.top) c.requires.rises) (pair_now c.loop-leaf.last) c.loop-leaf.id c.loop-leaf.invariant c.node-node.result.now c.node-node.ensures
    c.in-Internal.inner.parent c.in-Internal.inner.first c.in-Internal.inner.branches (ap view_of c.in-Internal.is) ((c.in-Some.pair.0.now, c.in-Some.pair.1.now), c.in-Some.child) c.last_of_row.result.1 cut

pub loop-leaf-smaller-in-Some : goal.loop-leaf-smaller-in-Some
loop-leaf-smaller-in-Some g c =
    let cut = rw (c.in-Internal.is, c.in-Some.is) at c.last_of_row.ensures in
    down-after-lower g.met.K.Ord.total (bound_key c.args.end) c.args.tree.now (list_under c.args.tree.now c.args.top) (rises g.K.Ord.cmp (list_under c.args.tree.now c.args.top) c.requires.rises) (pair_now c.loop-leaf.last) c.loop-leaf.id c.loop-leaf.invariant c.node-node.result.now c.node-node.ensures
    c.in-Internal.inner.parent c.in-Internal.inner.first c.in-Internal.inner.branches (ap view_of c.in-Internal.is) ((c.in-Some.pair.0.now, c.in-Some.pair.1.now), c.in-Some.child) c.last_of_row.result.1 cut

pub loop-leaf-preserved : goal.loop-leaf-preserved
loop-leaf-preserved g c =
    let cut = rw (c.in-Internal.is, c.in-None.is) at c.last_of_row.ensures in
    rw c.first_child_id-id.ensures
    (down-first g.met.K.Ord.total (bound_key c.args.end) c.args.tree.now (list_under c.args.tree.now c.args.top) (rises g.K.Ord.cmp (list_under c.args.tree.now c.args.top) c.requires.rises) (pair_now c.loop-leaf.last) c.loop-leaf.id c.loop-leaf.invariant c.node-node.result.now c.node-node.ensures
    c.in-Internal.inner.parent c.in-Internal.inner.first c.in-Internal.inner.branches (ap view_of c.in-Internal.is) c.last_of_row.result.1 cut)

pub loop-leaf-smaller : goal.loop-leaf-smaller
loop-leaf-smaller g c =
    rw c.first_child_id-id.ensures
    (down-first-lower g.met.K.Ord.total (bound_key c.args.end) c.args.tree.now (list_under c.args.tree.now c.args.top) (rises g.K.Ord.cmp (list_under c.args.tree.now c.args.top) c.requires.rises) (pair_now c.loop-leaf.last) c.loop-leaf.id c.loop-leaf.invariant c.node-node.result.now c.node-node.ensures
    c.in-Internal.inner.parent c.in-Internal.inner.first c.in-Internal.inner.branches (ap view_of c.in-Internal.is))
