use Rattle.btree_owned_walk.proofs.Common.{node_map, with_node}
use Rattle.btree_owned_walk.proofs.LeafLemmas.{keeps-node}
use Rattle.btree_owned_walk.proofs.StepLemmas.{used-of}
use Rattle.btree_owned_walk.proofs.BackLemmas.{last-climbs, last-room, last-taken}
use Rattle.btree_owned_walk.proofs.back.take_last_below.Goals as goal

pub node_mut-last-requires : goal.node_mut-last-requires
node_mut-last-requires g c =
    (c.tell_fits.ensures, used-of c.args.tree.now.nodes c.last_node-id.result c.last_node-id.ensures.last.node c.last_node-id.ensures.last.here)

pub take_right-item-requires : goal.take_right-item-requires
take_right-item-requires g c =
    (c.tell_fits.ensures, last-room c.args.tree.now c.args.from c.last_node-id.result c.node_mut-last.result.now c.node_mut-last.ensures.value c.last_node-id.ensures.last c.last_node-id.ensures.back c.requires)

pub release_spent-top-requires : goal.release_spent-top-requires
release_spent-top-requires g c =
    last-climbs c.args.tree.now c.args.from c.last_node-id.result c.node_mut-last.result.now c.node_mut-last.ensures.value c.last_node-id.ensures.last c.last_node-id.ensures.back
    c.take_right-item.new.self c.take_right-item.result.0 c.take_right-item.result.1 c.take_right-item.ensures.child c.take_right-item.ensures.taken c.requires

pub returns-then-item_count-gt0-clause-taken : goal.returns-then-item_count-gt0-clause-taken
returns-then-item_count-gt0-clause-taken g c =
    last-taken c.args.tree.now c.args.from c.last_node-id.result c.node_mut-last.result.now c.node_mut-last.ensures.value c.last_node-id.ensures.last c.last_node-id.ensures.back
    c.take_right-item.new.self c.take_right-item.result.0 c.take_right-item.result.1 c.take_right-item.ensures.child c.take_right-item.ensures.taken
    (node_map (with_node c.args.tree.now c.last_node-id.result c.take_right-item.new.self)) c.last_node-id.result
    (keeps-node c.args.tree.now c.last_node-id.result c.take_right-item.new.self c.item_count.result c.item_count.ensures.value c.if-item_count-gt0.true
    (last-climbs c.args.tree.now c.args.from c.last_node-id.result c.node_mut-last.result.now c.node_mut-last.ensures.value c.last_node-id.ensures.last c.last_node-id.ensures.back
    c.take_right-item.new.self c.take_right-item.result.0 c.take_right-item.result.1 c.take_right-item.ensures.child c.take_right-item.ensures.taken c.requires))

pub returns-clause-taken : goal.returns-clause-taken
returns-clause-taken g c =
    last-taken c.args.tree.now c.args.from c.last_node-id.result c.node_mut-last.result.now c.node_mut-last.ensures.value c.last_node-id.ensures.last c.last_node-id.ensures.back
    c.take_right-item.new.self c.take_right-item.result.0 c.take_right-item.result.1 c.take_right-item.ensures.child c.take_right-item.ensures.taken
    (node_map c.release_spent-top.new.tree) c.release_spent-top.result c.release_spent-top.ensures.released
