use Rattle.btree_ext.proofs.Common.{◌≡◌, ◌∙◌, ◌+◌, ◌<◌, IsSome, Some, length, slice_get, refl, sym, ap, subst, Node, view_of, with_node, view}
use Rattle.btree_view.specs.View.{children_of}
use Rattle.btree_raw.proofs.LastLemmas.{same-state}
use Rattle.btree_ext.specs.Taken.{TakesLeaf}
use Rattle.btree_ext.proofs.RemoveAtLemmas.{behind-within, has-behind, inner-by, leaf-lost, on-err, on-ok, vacant-by}
use Rattle.btree_ext.proofs.taken.take_at.Goals as goal

pub node_mut-node-requires : goal.node_mut-node-requires
node_mut-node-requires g c = (c.tell_fits.ensures, rw (← c.addr.view_is) at c.requires.used)

pub leaf_remove-requires : goal.leaf_remove-requires
leaf_remove-requires g c = c.tell_fits.ensures

pub item_count-count-requires : goal.item_count-count-requires
item_count-count-requires g c = c.tell_fits.ensures

pub parent-parent-requires : goal.parent-parent-requires
parent-parent-requires g c = c.tell_fits.ensures

pub unwrap-requires : goal.unwrap-requires
unwrap-requires g c =
    let inner = inner-by c.args.tree.now (view c.addr.inside) c.node_mut-node.result.now c.node_mut-node.ensures.value c.in-Some-Err.left (ap Some (sym c.in-Some-Err.field-0-is) ∙ c.in-Some-Err.ensures.answer) in
    subst (λ o. IsSome o) (sym inner.offset) refl

pub child_id-right-requires : goal.child_id-right-requires
child_id-right-requires g c =
    let inner = inner-by c.args.tree.now (view c.addr.inside) c.node_mut-node.result.now c.node_mut-node.ensures.value c.in-Some-Err.left (ap Some (sym c.in-Some-Err.field-0-is) ∙ c.in-Some-Err.ensures.answer) in (
      c.tell_fits.ensures,
      subst (λ (n : Node _ _). c.unwrap.result + 1 < length (children_of (view_of n))) (sym (on-err c.in-Some-Err.field-0 c.in-Some-Err.left c.in-Some-Err.field-0-is c.in-Some-Err.ensures.inner))
          (behind-within g.K.Ord.cmp g.met.K.Ord.total c.args.tree.now c.requires.tree (view c.addr.inside) c.in-Some-Err.left inner
          c.node_mut-node.result.now (sym c.node_mut-node.ensures.value) c.unwrap.result c.unwrap.ensures.value),
    )

pub returns-in-None : goal.returns-in-None
returns-in-None g c = rw (← c.addr.view_is) (
  vacant-by c.args.tree.now (view c.addr.inside) c.node_mut-node.result.now c.node_mut-node.ensures.value c.in-None.ensures.answer,
  same-state c.args.tree.now c.addr.inside.id c.node_mut-node.result.now c.leaf_remove.new.self c.node_mut-node.ensures.value c.in-None.ensures.none,
)

pub returns-in-Some-Ok : goal.returns-in-Some-Ok
returns-in-Some-Ok g c =
    let t : TakesLeaf c.args.tree.now (with_node c.args.tree.now c.addr.inside.id c.leaf_remove.new.self) (view c.addr.inside) c.in-Some-Ok.item =
    record {
      node = c.node_mut-node.result.now;
      at = c.node_mut-node.ensures.value;
      item = ap Some (sym c.in-Some-Ok.field-0-is) ∙ c.in-Some-Ok.ensures.answer;
      kept = c.leaf_remove.new.self;
      shorter = on-ok c.in-Some-Ok.field-0 c.in-Some-Ok.item c.in-Some-Ok.field-0-is c.in-Some-Ok.ensures.taken;
      after = refl;
    } in
    rw (← c.addr.view_is) (t, λ few. leaf-lost g.met.K.Ord.total c.requires.tree t few c.item_count-count.result c.item_count-count.ensures.value c.parent-parent.result c.parent-parent.ensures.value)

pub returns-in-Some-Err : goal.returns-in-Some-Err
returns-in-Some-Err g c =
    let inner = inner-by c.args.tree.now (view c.addr.inside) c.node_mut-node.result.now c.node_mut-node.ensures.value c.in-Some-Err.left (ap Some (sym c.in-Some-Err.field-0-is) ∙ c.in-Some-Err.ensures.answer) in
    let kept = on-err c.in-Some-Err.field-0 c.in-Some-Err.left c.in-Some-Err.field-0-is c.in-Some-Err.ensures.inner in
    rw (← c.addr.view_is) (
      inner,
      has-behind g.K.Ord.cmp g.met.K.Ord.total c.args.tree.now c.requires.tree (view c.addr.inside) c.in-Some-Err.left inner
          c.node_mut-node.result.now (sym c.node_mut-node.ensures.value) c.unwrap.result c.unwrap.ensures.value c.child_id-right.result
          (subst (λ (n : Node _ _). slice_get (children_of (view_of n)) (c.unwrap.result + 1) ≡ Some c.child_id-right.result) kept c.child_id-right.ensures),
      same-state c.args.tree.now c.addr.inside.id c.node_mut-node.result.now c.leaf_remove.new.self c.node_mut-node.ensures.value kept,
    )
