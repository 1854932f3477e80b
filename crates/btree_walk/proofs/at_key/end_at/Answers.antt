use Rattle.btree_walk.proofs.Common.{[], ◌++◌, ◌-◌, sym, ap, subst, ◌∙◌, arith, append-nil, refl, view_of, list_under, node_map, pairs_of, pairs_under, IsWellFormed, rises}
use Rattle.std.specs.FinMap as map
use Rattle.btree_walk.proofs.IterLemmas.{root-under}
use Rattle.btree_walk.specs.Preceding.{preceding_in_ancestors}
use Rattle.btree_walk.proofs.AroundLemmas.{items-ascend}
use Rattle.btree_walk.proofs.BackLemmas.{behind}
use Rattle.btree_walk.proofs.UpToLemmas.{row-kept, up_to-down, up_to-found, up_to-leaf}
use Rattle.btree_walk.proofs.WalkLemmas.{under-used}
use Rattle.btree_walk.proofs.WayLemmas.{room}
use Rattle.btree_walk.proofs.RowLemmas.{pushed-smaller}
use Rattle.btree_walk.proofs.at_key.end_at.Goals as goal

pub loop-leaf-init : goal.loop-leaf-init
loop-leaf-init g c =
    let well = subst (λ r. IsWellFormed g.K.Ord.cmp (node_map c.args.tree.now) r c.args.tree.now.len (pairs_of c.args.tree.now)) (sym c.in-Some.ensures.value) c.in-Some.ensures.well_formed in
    let fits = c.len-len.type_inv in
    let is = c.len-len.ensures in
    record {
      rows = rw c.requires.none tt;
      under = rw c.requires.none (root-under g.K.Ord.cmp c.args.tree.now c.in-Some.root (rw (← is) fits) well);
      after = [];
      around = record {
        list =
            sym (
            ap (λ l. preceding_in_ancestors c.args.tree.now c.args.ancestors.now ++ l) (append-nil (list_under c.args.tree.now c.in-Some.root))
            ∙ ap (λ fs. preceding_in_ancestors c.args.tree.now fs ++ list_under c.args.tree.now c.in-Some.root) c.requires.none
            ∙ ap (λ r. pairs_under (node_map c.args.tree.now) r (map.len c.args.tree.now.nodes)) c.in-Some.ensures.value
            );
        low = rw c.requires.none tt;
        high = tt;
      };
    }

pub node-node-requires : goal.node-node-requires
node-node-requires g c = (c.tell_fits.ensures, under-used c.args.tree.now.nodes (map.len c.args.tree.now.nodes) _ c.loop-leaf.id c.loop-leaf.invariant.under)

pub items_up_to-kept-requires : goal.items_up_to-kept-requires
items_up_to-kept-requires g c = (
  c.tell_fits.ensures,
  items-ascend g.met.K.Ord.total (rises g.K.Ord.cmp (pairs_of c.args.tree.now) c.in-Some.ensures.well_formed.ascends) c.loop-leaf.invariant.around c.loop-leaf.invariant.under c.node-node.result.now c.node-node.ensures,
)

pub returns-in-Leaf-clause-above : goal.returns-in-Leaf-clause-above
returns-in-Leaf-clause-above g c = c.loop-leaf.invariant.rows

pub returns-in-Leaf-clause-left : goal.returns-in-Leaf-clause-left
returns-in-Leaf-clause-left g c =
    up_to-leaf g.met.K.Ord.total (rises g.K.Ord.cmp (pairs_of c.args.tree.now) c.in-Some.ensures.well_formed.ascends) c.loop-leaf.invariant c.node-node.result.now c.node-node.ensures
    c.in-Leaf.leaf.parent c.in-Leaf.leaf.items (ap view_of c.in-Leaf.is) c.items_up_to-kept.result.0 c.items_up_to-kept.result.1 c.items_up_to-kept.ensures.value

pub item_count-requires : goal.item_count-requires
item_count-requires g c = c.tell_fits.ensures

pub push-requires : goal.push-requires
push-requires g c = (
  omega arith,
  room (behind c.args.tree.now) c.loop-leaf.ancestors c.loop-leaf.invariant.under,
)

pub loop-leaf-smaller : goal.loop-leaf-smaller
loop-leaf-smaller g c = pushed-smaller c.loop-leaf.ancestors _ c.push.new.self
    (room (behind c.args.tree.now) c.loop-leaf.ancestors c.loop-leaf.invariant.under) c.push.ensures

pub loop-leaf-preserved : goal.loop-leaf-preserved
loop-leaf-preserved g c = up_to-down g.met.K.Ord.total (rises g.K.Ord.cmp (pairs_of c.args.tree.now) c.in-Some.ensures.well_formed.ascends) c.loop-leaf.invariant c.node-node.result.now c.node-node.ensures
    c.in-Internal.field-0.parent c.in-Internal.field-0.first c.in-Internal.field-0.branches (ap view_of c.in-Internal.is) c.items_up_to-kept.result.0
    (record { node = c.node-node.result; passed = c.item_count.result - c.items_up_to-kept.result.0 })
    (row-kept (view_of c.node-node.result.now) c.in-Internal.field-0.parent c.in-Internal.field-0.first c.in-Internal.field-0.branches (ap view_of c.in-Internal.is)
    c.item_count.result c.items_up_to-kept.result.0 c.item_count.ensures.value c.items_up_to-kept.ensures.within) c.push.ensures c.in-Some-next.child (rw (← c.in-Some-next.is) c.items_up_to-kept.ensures.value)

pub returns-in-None-clause-above : goal.returns-in-None-clause-above
returns-in-None-clause-above g c = (up_to-found g.met.K.Ord.total (rises g.K.Ord.cmp (pairs_of c.args.tree.now) c.in-Some.ensures.well_formed.ascends) c.loop-leaf.invariant c.node-node.result.now c.node-node.ensures
    c.in-Internal.field-0.parent c.in-Internal.field-0.first c.in-Internal.field-0.branches (ap view_of c.in-Internal.is) c.items_up_to-kept.result.0
    (record { node = c.node-node.result; passed = c.item_count.result - c.items_up_to-kept.result.0 })
    (row-kept (view_of c.node-node.result.now) c.in-Internal.field-0.parent c.in-Internal.field-0.first c.in-Internal.field-0.branches (ap view_of c.in-Internal.is)
    c.item_count.result c.items_up_to-kept.result.0 c.item_count.ensures.value c.items_up_to-kept.ensures.within) c.push.ensures (rw (← c.in-None.is) c.items_up_to-kept.ensures.value)).0

pub returns-in-None-clause-left : goal.returns-in-None-clause-left
returns-in-None-clause-left g c =
    append-nil (preceding_in_ancestors c.args.tree.now c.push.new.self)
    ∙ (up_to-found g.met.K.Ord.total (rises g.K.Ord.cmp (pairs_of c.args.tree.now) c.in-Some.ensures.well_formed.ascends) c.loop-leaf.invariant c.node-node.result.now c.node-node.ensures
    c.in-Internal.field-0.parent c.in-Internal.field-0.first c.in-Internal.field-0.branches (ap view_of c.in-Internal.is) c.items_up_to-kept.result.0
    (record { node = c.node-node.result; passed = c.item_count.result - c.items_up_to-kept.result.0 })
    (row-kept (view_of c.node-node.result.now) c.in-Internal.field-0.parent c.in-Internal.field-0.first c.in-Internal.field-0.branches (ap view_of c.in-Internal.is)
    c.item_count.result c.items_up_to-kept.result.0 c.item_count.ensures.value c.items_up_to-kept.ensures.within) c.push.ensures (rw (← c.in-None.is) c.items_up_to-kept.ensures.value)).1

pub returns-in-Leaf-clause-kept : goal.returns-in-Leaf-clause-kept
returns-in-Leaf-clause-kept g c = rw c.in-Leaf.is at c.items_up_to-kept.ensures.within

pub returns-in-None-clause-kept : goal.returns-in-None-clause-kept
returns-in-None-clause-kept g c = refl

pub returns-in_default-clause-above : goal.returns-in_default-clause-above
returns-in_default-clause-above g c = rw c.requires.none tt

pub returns-in_default-clause-kept : goal.returns-in_default-clause-kept
returns-in_default-clause-kept g c = refl

pub overflow_sub-passed : goal.overflow_sub-passed
overflow_sub-passed g c = omega (arith, c.items_up_to-kept.ensures.within, c.item_count.ensures.value)
