use Rattle.btree_valid.proofs.Common.{◌+◌, Some, option_copied, subst, sym, view_of, items_of, refl}
use Rattle.btree_valid.specs.Sizes.{IsAbove}
use Rattle.btree_valid.proofs.NodeLemmas.{IsOnWay, way-above, way-end, way-next, way-start}
use Rattle.btree_valid.proofs.off_by_one.ascends_from.Goals as goal

pub returns-then-not-is_above : goal.returns-then-not-is_above
returns-then-not-is_above g c = (
  λ no. absurd (cc),
  λ up. c.if-not-is_above.ensures.1 (subst (λ k. IsAbove g.K.Ord.cmp (option_copied c.loop-item.last) k) (sym c.key-key.ensures)
      (way-above g.K.Ord.cmp (items_of (view_of c.args.node.now)) (option_copied c.args.min) c.loop-item.index (option_copied c.loop-item.last) c.loop-item.invariant c.in-Some.item.now c.in-Some.ensures.item up)),
)

pub loop-item-preserved : goal.loop-item-preserved
loop-item-preserved g c =
    subst (λ k. IsOnWay g.K.Ord.cmp (items_of (view_of c.args.node.now)) (option_copied c.args.min) (c.loop-item.index + 1) (Some k)) (sym c.key-key.ensures)
    (way-next g.K.Ord.cmp (items_of (view_of c.args.node.now)) (option_copied c.args.min) c.loop-item.index (option_copied c.loop-item.last) c.loop-item.invariant c.in-Some.item.now c.in-Some.ensures.item
    (subst (λ k. IsAbove g.K.Ord.cmp (option_copied c.loop-item.last) k) c.key-key.ensures (c.if-not-is_above.ensures.0 refl)))

pub returns : goal.returns
returns g c = (
  λ yes. way-end g.K.Ord.cmp (items_of (view_of c.args.node.now)) (option_copied c.args.min) c.loop-item.index (option_copied c.loop-item.last) c.loop-item.invariant c.in_default.ensures.item,
  λ up. refl,
)

pub loop-item-init : goal.loop-item-init
loop-item-init g c = way-start _ _ _

pub item_at_index-requires : goal.item_at_index-requires
item_at_index-requires g c = search
