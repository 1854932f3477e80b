use Rattle.btree_walk.proofs.Common.{◌≡◌, ◌∷◌, ◌++◌, length, map, slice_get, Some, option_map, refl, sym, arith, rules, ap, ◌∙◌, subst, take_all, view_of, fits-internal, fits-leaf, node_map}
use Rattle.std.specs.FinMap as finite
use Rattle.btree_walk.specs.Preceding.{preceding_in_ancestors}
use Rattle.btree_walk.proofs.BackLemmas.{behind, whole-row}
use Rattle.btree_walk.proofs.RowLemmas.{inside-before, pushed-smaller}
use Rattle.btree_walk.proofs.WalkLemmas.{under-used}
use Rattle.btree_walk.proofs.WayLemmas.{down-internal, down-leaf, down-room}
use Rattle.btree_walk.proofs.backward.descend_last.Goals as goal

pub loop-leaf-init : goal.loop-leaf-init
loop-leaf-init g c = record { down = record { rows = c.requires.above; under = c.requires.below; list = refl }; fetched = c.requires.fetched }

pub take_or_fetch-node-requires : goal.take_or_fetch-node-requires
take_or_fetch-node-requires g c = (
  omega arith,
  (
    search rules,
    (under-used c.args.tree.now.nodes (finite.len c.args.tree.now.nodes) _ c.loop-leaf.id c.loop-leaf.invariant.down.under, c.loop-leaf.invariant.fetched),
  ),
)

pub push-requires : goal.push-requires
push-requires g c = (omega arith, down-room (behind c.args.tree.now) c.loop-leaf.invariant.down)

pub loop-leaf-smaller : goal.loop-leaf-smaller
loop-leaf-smaller g c = pushed-smaller c.loop-leaf.ancestors _ c.push.new.self (down-room (behind c.args.tree.now) c.loop-leaf.invariant.down) c.push.ensures

pub loop-leaf-preserved : goal.loop-leaf-preserved
loop-leaf-preserved g c =
    let inner = c.in-Internal.inner in
    let last : slice_get (inner.first ∷ map (λ b. b.1) inner.branches) (length inner.branches) ≡ Some c.child_id-id.result =
    subst (λ n. slice_get (inner.first ∷ map (λ b. b.1) inner.branches) n ≡ Some c.child_id-id.result) c.item_count-in-Internal.ensures.value c.child_id-id.ensures in
    let i = inside-before (node_map c.args.tree.now) (finite.len c.args.tree.now.nodes) _ c.loop-leaf.id inner.parent inner.first inner.branches c.child_id-id.result c.loop-leaf.invariant.down.under
    (ap (option_map view_of) c.take_or_fetch-node.ensures.value ∙ ap (λ n. Some (view_of n)) c.in-Internal.is) last in
    record {
      down = down-internal (behind c.args.tree.now) c.loop-leaf.invariant.down c.child_id-id.result _ i.last_under i.row_under i.list _
          (whole-row (view_of c.take_or_fetch-node.result.now) ∙ rw c.in-Internal.is refl) c.push.ensures;
      fetched = c.take_or_fetch-node.ensures.fetched;
    }

pub returns-in-Leaf-clause-left : goal.returns-in-Leaf-clause-left
returns-in-Leaf-clause-left g c =
    let leaf = c.in-Leaf.leaf in
    down-leaf (behind c.args.tree.now) c.loop-leaf.invariant.down c.take_or_fetch-node.result.now c.take_or_fetch-node.ensures.value leaf.parent leaf.items (ap view_of c.in-Leaf.is)
    ∙ ap (λ l. preceding_in_ancestors c.args.tree.now c.loop-leaf.ancestors ++ l) (sym (take_all c.item_count.result leaf.items (let n = c.item_count.ensures.value in omega arith)))

pub item_count-requires : goal.item_count-requires
item_count-requires g c = search fits-leaf

pub item_count-requires-in-Internal : goal.item_count-requires-in-Internal
item_count-requires-in-Internal g c = search fits-internal

pub child_id-id-requires : goal.child_id-id-requires
child_id-id-requires g c = (search fits-internal, rw c.item_count-in-Internal.ensures.value (omega arith))
