use Rattle.btree_raw.proofs.Common.{◌∙◌, refl, sym, view}
use Rattle.btree_raw.proofs.WithinLemmas.{bottom-within, node-within, not-within}
use Rattle.btree_raw.proofs.raw.is_within.Goals as goal

pub returns-then-not-has_node : goal.returns-then-not-has_node
returns-then-not-has_node g c = rw (← c.addr.view_is) (
  λ t. absurd (cc),
  λ w. absurd (not-within c.args.tree.now (view c.addr.inside) (λ used. let yes = c.if-not-has_node.ensures.1 used in absurd (cc)) w),
)

pub node-requires : goal.node-requires
node-requires g c = (c.tell_fits.ensures, c.if-not-has_node.ensures.0 (cc))

pub item_count-requires : goal.item_count-requires
item_count-requires g c = c.tell_fits.ensures

pub returns-in-Some : goal.returns-in-Some
returns-in-Some g c =
    rw (← c.addr.view_is) (node-within c.args.tree.now (view c.addr.inside) c.node.result.now c.in-Some.offset c.item_count.result c.node.ensures.value (sym c.value.ensures.value ∙ c.in-Some.is)
    c.item_count.ensures.value)

pub returns-in-None : goal.returns-in-None
returns-in-None g c = rw (← c.addr.view_is) (
  λ t. bottom-within c.args.tree.now (view c.addr.inside) (c.if-not-has_node.ensures.0 refl) (sym c.value.ensures.value ∙ c.in-None.is),
  λ w. refl,
)
