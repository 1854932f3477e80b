use Rattle.btree_owned_walk.proofs.Common.{ap, sym, option_map, refl, ◌∙◌, view_of, node_map}
use Rattle.btree_owned_walk.proofs.StepLemmas.{bare-gone, bare-leaf, is-spent, false-true, spent-child, spent-count, view-unused, view-used}
use Rattle.btree_owned_walk.proofs.spent.is_spent.Goals as goal

pub returns-then-item_count-gt0 : goal.returns-then-item_count-gt0
returns-then-item_count-gt0 g c =
    (λ t. absurd (cc), λ s. absurd (spent-count (node_map c.args.tree.now) c.args.id (view_of c.node-node.result.now) (ap (option_map view_of) c.node-node.ensures.value) c.item_count.result c.item_count.ensures.value c.if-item_count-gt0.true s))

pub returns-in_default : goal.returns-in_default
returns-in_default g c = (
  λ t. is-spent (node_map c.args.tree.now) c.args.id (view_of c.node-node.result.now) (ap (option_map view_of) c.node-node.ensures.value) c.item_count.result c.item_count.ensures.value c.if-item_count-gt0.false
      (bare-leaf (node_map c.args.tree.now) (view_of c.node-node.result.now) (sym c.child_id_opt.ensures ∙ c.in_default.is)),
  λ s. refl,
)

pub returns-then-has_node : goal.returns-then-has_node
returns-then-has_node g c = (
  λ t. absurd (cc),
  λ s. absurd (let w = view-used c.args.tree.now.nodes c.in-Some.child (c.if-has_node.ensures.0 refl) in
      spent-child (node_map c.args.tree.now) c.args.id (view_of c.node-node.result.now) (ap (option_map view_of) c.node-node.ensures.value) c.in-Some.child w.0 (sym c.child_id_opt.ensures ∙ c.in-Some.is) w.1 s),
)

pub returns : goal.returns
returns g c = (
  λ t. is-spent (node_map c.args.tree.now) c.args.id (view_of c.node-node.result.now) (ap (option_map view_of) c.node-node.ensures.value) c.item_count.result c.item_count.ensures.value c.if-item_count-gt0.false
      (bare-gone (node_map c.args.tree.now) (view_of c.node-node.result.now) c.in-Some.child (sym c.child_id_opt.ensures ∙ c.in-Some.is) (view-unused c.args.tree.now.nodes c.in-Some.child (λ u. absurd (false-true (c.if-has_node.ensures.1 u))))),
  λ s. refl,
)
