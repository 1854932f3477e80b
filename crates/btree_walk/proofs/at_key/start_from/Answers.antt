use Rattle.btree_walk.proofs.Common.{[], ◌++◌, refl, sym, ap, subst, ◌∙◌, arith, append-nil, view_of, list_under, node_map, pairs_of, pairs_under, IsWellFormed, rises}
use Rattle.std.specs.FinMap as map
use Rattle.btree_walk.specs.Rows.{remaining_in_ancestors}
use Rattle.btree_walk.proofs.AroundLemmas.{items-ascend}
use Rattle.btree_walk.proofs.FromLemmas.{from-down, from-found, from-leaf}
use Rattle.btree_walk.proofs.IterLemmas.{root-under}
use Rattle.btree_walk.proofs.WalkLemmas.{ahead, under-used}
use Rattle.btree_walk.proofs.WayLemmas.{room}
use Rattle.btree_walk.proofs.RowLemmas.{pushed-smaller}
use Rattle.btree_walk.proofs.at_key.start_from.Goals as goal

pub loop-leaf-init : goal.loop-leaf-init
loop-leaf-init g c =
    let well = subst (λ r. IsWellFormed g.K.Ord.cmp (node_map c.args.tree.now) r c.args.tree.now.len (pairs_of c.args.tree.now)) (sym c.in-Some.ensures.value) c.in-Some.ensures.well_formed in
    let fits = c.len-len.type_inv in
    let is = c.len-len.ensures in
    record {
      rows = rw c.requires.none tt;
      under = rw c.requires.none (root-under g.K.Ord.cmp c.args.tree.now c.in-Some.root (rw (← is) fits) well);
      before = [];
      around = record {
        list =
            sym (
            ap (λ fs. list_under c.args.tree.now c.in-Some.root ++ remaining_in_ancestors c.args.tree.now fs) c.requires.none
            ∙ append-nil (list_under c.args.tree.now c.in-Some.root)
            ∙ ap (λ r. pairs_under (node_map c.args.tree.now) r (map.len c.args.tree.now.nodes)) c.in-Some.ensures.value
            );
        low = tt;
        high = rw c.requires.none tt;
      };
    }

pub node-node-requires : goal.node-node-requires
node-node-requires g c = (c.tell_fits.ensures, under-used c.args.tree.now.nodes (map.len c.args.tree.now.nodes) _ c.loop-leaf.id c.loop-leaf.invariant.under)

pub items_below-passed-requires : goal.items_below-passed-requires
items_below-passed-requires g c = (
  c.tell_fits.ensures,
  items-ascend g.met.K.Ord.total (rises g.K.Ord.cmp (pairs_of c.args.tree.now) c.in-Some.ensures.well_formed.ascends) c.loop-leaf.invariant.around c.loop-leaf.invariant.under c.node-node.result.now c.node-node.ensures,
)

pub returns-in-Leaf-clause-above : goal.returns-in-Leaf-clause-above
returns-in-Leaf-clause-above g c = c.loop-leaf.invariant.rows

pub returns-in-Leaf-clause-left : goal.returns-in-Leaf-clause-left
returns-in-Leaf-clause-left g c =
    from-leaf g.met.K.Ord.total (rises g.K.Ord.cmp (pairs_of c.args.tree.now) c.in-Some.ensures.well_formed.ascends) c.loop-leaf.invariant c.node-node.result.now c.node-node.ensures
    c.in-Leaf.leaf.parent c.in-Leaf.leaf.items (ap view_of c.in-Leaf.is) c.items_below-passed.result.0 c.items_below-passed.result.1 c.items_below-passed.ensures

pub push-requires : goal.push-requires
push-requires g c = (
  omega arith,
  room (ahead c.args.tree.now) c.loop-leaf.ancestors c.loop-leaf.invariant.under,
)

pub loop-leaf-smaller : goal.loop-leaf-smaller
loop-leaf-smaller g c = pushed-smaller c.loop-leaf.ancestors _ c.push.new.self
    (room (ahead c.args.tree.now) c.loop-leaf.ancestors c.loop-leaf.invariant.under) c.push.ensures

pub loop-leaf-preserved : goal.loop-leaf-preserved
loop-leaf-preserved g c =
    from-down g.met.K.Ord.total (rises g.K.Ord.cmp (pairs_of c.args.tree.now) c.in-Some.ensures.well_formed.ascends) c.loop-leaf.invariant c.node-node.result.now c.node-node.ensures
    c.in-Internal.field-0.parent c.in-Internal.field-0.first c.in-Internal.field-0.branches (ap view_of c.in-Internal.is)
    (record { node = c.node-node.result; passed = c.items_below-passed.result.0 }) (rw c.in-Internal.is refl) c.push.ensures c.in-Some-next.child (rw (← c.in-Some-next.is) c.items_below-passed.ensures)

pub returns-in-None-clause-above : goal.returns-in-None-clause-above
returns-in-None-clause-above g c =
    (from-found g.met.K.Ord.total (rises g.K.Ord.cmp (pairs_of c.args.tree.now) c.in-Some.ensures.well_formed.ascends) c.loop-leaf.invariant c.node-node.result.now c.node-node.ensures
    c.in-Internal.field-0.parent c.in-Internal.field-0.first c.in-Internal.field-0.branches (ap view_of c.in-Internal.is)
    (record { node = c.node-node.result; passed = c.items_below-passed.result.0 }) (rw c.in-Internal.is refl) c.push.ensures (rw (← c.in-None.is) c.items_below-passed.ensures)).0

pub returns-in-None-clause-left : goal.returns-in-None-clause-left
returns-in-None-clause-left g c =
    (from-found g.met.K.Ord.total (rises g.K.Ord.cmp (pairs_of c.args.tree.now) c.in-Some.ensures.well_formed.ascends) c.loop-leaf.invariant c.node-node.result.now c.node-node.ensures
    c.in-Internal.field-0.parent c.in-Internal.field-0.first c.in-Internal.field-0.branches (ap view_of c.in-Internal.is)
    (record { node = c.node-node.result; passed = c.items_below-passed.result.0 }) (rw c.in-Internal.is refl) c.push.ensures (rw (← c.in-None.is) c.items_below-passed.ensures)).1
