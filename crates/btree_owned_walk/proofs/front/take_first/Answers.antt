use Rattle.btree_owned_walk.proofs.Common.{sym, subst, ◌∙◌, node_map, with_node, StandsAtFront, TakesFirst}
use Rattle.btree_owned_walk.proofs.LeafLemmas.{keeps-node, leaf-has-first, unwritten}
use Rattle.btree_owned_walk.proofs.StepLemmas.{first-climbs, first-room, first-taken, goes-start, goes-used, used-of}
use Rattle.btree_owned_walk.proofs.front.take_first.Goals as goal

pub node_mut-node-requires : goal.node_mut-node-requires
node_mut-node-requires g c =
    let u = goes-used (node_map c.args.tree.now) c.args.from c.args.from 0 (goes-start (node_map c.args.tree.now) c.args.from c.requires) in
    (c.tell_fits.ensures, used-of c.args.tree.now.nodes c.args.from u.0 u.1)

pub take_first_below-requires : goal.take_first_below-requires
take_first_below-requires g c =
    subst (λ t. StandsAtFront (node_map t) c.args.from) (sym (unwritten c.args.tree.now c.args.from c.node_mut-node.result.now c.node_mut-node.ensures.value)) c.requires

pub returns-in-Some-clause-taken : goal.returns-in-Some-clause-taken
returns-in-Some-clause-taken g c =
    subst (λ t. TakesFirst (node_map t) (node_map c.take_first_below.new.tree) c.args.from c.take_first_below.result.0 c.take_first_below.result.1)
    (unwritten c.args.tree.now c.args.from c.node_mut-node.result.now c.node_mut-node.ensures.value) c.take_first_below.ensures.taken

pub take_left-item-requires : goal.take_left-item-requires
take_left-item-requires g c = (
  c.tell_fits.ensures,
  first-room c.args.tree.now c.args.from c.args.from c.node_mut-node.result.now c.node_mut-node.ensures.value
      (leaf-has-first c.args.tree.now c.args.from c.node_mut-node.result.now c.node_mut-node.ensures.value (sym c.child_id_opt.ensures ∙ c.in_default.is)) (λ h t d at. at) c.requires,
)

pub release_spent-top-requires : goal.release_spent-top-requires
release_spent-top-requires g c =
    first-climbs c.args.tree.now c.args.from c.args.from c.node_mut-node.result.now c.node_mut-node.ensures.value
    (leaf-has-first c.args.tree.now c.args.from c.node_mut-node.result.now c.node_mut-node.ensures.value (sym c.child_id_opt.ensures ∙ c.in_default.is)) (λ h t d at. at)
    c.take_left-item.new.self c.take_left-item.result.0 c.take_left-item.result.1 c.take_left-item.ensures.child c.take_left-item.ensures.taken c.requires

pub returns-then-item_count-gt0-clause-taken : goal.returns-then-item_count-gt0-clause-taken
returns-then-item_count-gt0-clause-taken g c =
    first-taken c.args.tree.now c.args.from c.args.from c.node_mut-node.result.now c.node_mut-node.ensures.value
    (leaf-has-first c.args.tree.now c.args.from c.node_mut-node.result.now c.node_mut-node.ensures.value (sym c.child_id_opt.ensures ∙ c.in_default.is)) (λ h t d at. at)
    c.take_left-item.new.self c.take_left-item.result.0 c.take_left-item.result.1 c.take_left-item.ensures.child c.take_left-item.ensures.taken
    (node_map (with_node c.args.tree.now c.args.from c.take_left-item.new.self)) c.args.from
    (keeps-node c.args.tree.now c.args.from c.take_left-item.new.self c.item_count.result c.item_count.ensures.value c.if-item_count-gt0.true
    (first-climbs c.args.tree.now c.args.from c.args.from c.node_mut-node.result.now c.node_mut-node.ensures.value
    (leaf-has-first c.args.tree.now c.args.from c.node_mut-node.result.now c.node_mut-node.ensures.value (sym c.child_id_opt.ensures ∙ c.in_default.is)) (λ h t d at. at)
    c.take_left-item.new.self c.take_left-item.result.0 c.take_left-item.result.1 c.take_left-item.ensures.child c.take_left-item.ensures.taken c.requires))

pub returns-clause-taken : goal.returns-clause-taken
returns-clause-taken g c =
    first-taken c.args.tree.now c.args.from c.args.from c.node_mut-node.result.now c.node_mut-node.ensures.value
    (leaf-has-first c.args.tree.now c.args.from c.node_mut-node.result.now c.node_mut-node.ensures.value (sym c.child_id_opt.ensures ∙ c.in_default.is)) (λ h t d at. at)
    c.take_left-item.new.self c.take_left-item.result.0 c.take_left-item.result.1 c.take_left-item.ensures.child c.take_left-item.ensures.taken
    (node_map c.release_spent-top.new.tree) c.release_spent-top.result c.release_spent-top.ensures.released
