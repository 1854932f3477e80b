use Rattle.btree_owned_walk.proofs.Common.{sym, subst, ◌∙◌, node_map, with_node, StandsAtBack, TakesLast}
use Rattle.btree_owned_walk.proofs.LeafLemmas.{keeps-node, leaf-has-last, unwritten}
use Rattle.btree_owned_walk.proofs.BackLemmas.{goes-back-start, goes-back-used, last-climbs, last-room, last-taken}
use Rattle.btree_owned_walk.proofs.StepLemmas.{used-of}
use Rattle.btree_owned_walk.proofs.back.take_last.Goals as goal

pub node_mut-node-requires : goal.node_mut-node-requires
node_mut-node-requires g c =
    let u = goes-back-used (node_map c.args.tree.now) c.args.from c.args.from 0 (goes-back-start (node_map c.args.tree.now) c.args.from c.requires) in
    (c.tell_fits.ensures, used-of c.args.tree.now.nodes c.args.from u.0 u.1)

pub take_last_below-requires : goal.take_last_below-requires
take_last_below-requires g c =
    subst (λ t. StandsAtBack (node_map t) c.args.from) (sym (unwritten c.args.tree.now c.args.from c.node_mut-node.result.now c.node_mut-node.ensures.value)) c.requires

pub returns-in-Some-clause-taken : goal.returns-in-Some-clause-taken
returns-in-Some-clause-taken g c =
    subst (λ t. TakesLast (node_map t) (node_map c.take_last_below.new.tree) c.args.from c.take_last_below.result.0 c.take_last_below.result.1)
    (unwritten c.args.tree.now c.args.from c.node_mut-node.result.now c.node_mut-node.ensures.value) c.take_last_below.ensures.taken

pub take_right-item-requires : goal.take_right-item-requires
take_right-item-requires g c = (
  c.tell_fits.ensures,
  last-room c.args.tree.now c.args.from c.args.from c.node_mut-node.result.now c.node_mut-node.ensures.value
      (leaf-has-last c.args.tree.now c.args.from c.node_mut-node.result.now c.node_mut-node.ensures.value (sym c.child_id_opt.ensures ∙ c.in_default.is)) (λ h t d at. at) c.requires,
)

pub release_spent-top-requires : goal.release_spent-top-requires
release_spent-top-requires g c =
    last-climbs c.args.tree.now c.args.from c.args.from c.node_mut-node.result.now c.node_mut-node.ensures.value
    (leaf-has-last c.args.tree.now c.args.from c.node_mut-node.result.now c.node_mut-node.ensures.value (sym c.child_id_opt.ensures ∙ c.in_default.is)) (λ h t d at. at)
    c.take_right-item.new.self c.take_right-item.result.0 c.take_right-item.result.1 c.take_right-item.ensures.child c.take_right-item.ensures.taken c.requires

pub returns-then-item_count-gt0-clause-taken : goal.returns-then-item_count-gt0-clause-taken
returns-then-item_count-gt0-clause-taken g c =
    last-taken c.args.tree.now c.args.from c.args.from c.node_mut-node.result.now c.node_mut-node.ensures.value
    (leaf-has-last c.args.tree.now c.args.from c.node_mut-node.result.now c.node_mut-node.ensures.value (sym c.child_id_opt.ensures ∙ c.in_default.is)) (λ h t d at. at)
    c.take_right-item.new.self c.take_right-item.result.0 c.take_right-item.result.1 c.take_right-item.ensures.child c.take_right-item.ensures.taken
    (node_map (with_node c.args.tree.now c.args.from c.take_right-item.new.self)) c.args.from
    (keeps-node c.args.tree.now c.args.from c.take_right-item.new.self c.item_count.result c.item_count.ensures.value c.if-item_count-gt0.true
    (last-climbs c.args.tree.now c.args.from c.args.from c.node_mut-node.result.now c.node_mut-node.ensures.value
    (leaf-has-last c.args.tree.now c.args.from c.node_mut-node.result.now c.node_mut-node.ensures.value (sym c.child_id_opt.ensures ∙ c.in_default.is)) (λ h t d at. at)
    c.take_right-item.new.self c.take_right-item.result.0 c.take_right-item.result.1 c.take_right-item.ensures.child c.take_right-item.ensures.taken c.requires))

pub returns-clause-taken : goal.returns-clause-taken
returns-clause-taken g c =
    last-taken c.args.tree.now c.args.from c.args.from c.node_mut-node.result.now c.node_mut-node.ensures.value
    (leaf-has-last c.args.tree.now c.args.from c.node_mut-node.result.now c.node_mut-node.ensures.value (sym c.child_id_opt.ensures ∙ c.in_default.is)) (λ h t d at. at)
    c.take_right-item.new.self c.take_right-item.result.0 c.take_right-item.result.1 c.take_right-item.ensures.child c.take_right-item.ensures.taken
    (node_map c.release_spent-top.new.tree) c.release_spent-top.result c.release_spent-top.ensures.released
