use Rattle.btree_owned_walk.proofs.Common.{node_map, with_node}
use Rattle.btree_owned_walk.proofs.LeafLemmas.{keeps-node}
use Rattle.btree_owned_walk.proofs.StepLemmas.{first-climbs, first-room, first-taken, used-of}
use Rattle.btree_owned_walk.proofs.front.take_first_below.Goals as goal

pub node_mut-first-requires : goal.node_mut-first-requires
node_mut-first-requires g c =
    (c.tell_fits.ensures, used-of c.args.tree.now.nodes c.first_node-id.result c.first_node-id.ensures.first.node c.first_node-id.ensures.first.here)

pub take_left-item-requires : goal.take_left-item-requires
take_left-item-requires g c =
    (c.tell_fits.ensures, first-room c.args.tree.now c.args.from c.first_node-id.result c.node_mut-first.result.now c.node_mut-first.ensures.value c.first_node-id.ensures.first c.first_node-id.ensures.front c.requires)

pub release_spent-top-requires : goal.release_spent-top-requires
release_spent-top-requires g c =
    first-climbs c.args.tree.now c.args.from c.first_node-id.result c.node_mut-first.result.now c.node_mut-first.ensures.value c.first_node-id.ensures.first c.first_node-id.ensures.front
    c.take_left-item.new.self c.take_left-item.result.0 c.take_left-item.result.1 c.take_left-item.ensures.child c.take_left-item.ensures.taken c.requires

pub returns-then-item_count-gt0-clause-taken : goal.returns-then-item_count-gt0-clause-taken
returns-then-item_count-gt0-clause-taken g c =
    first-taken c.args.tree.now c.args.from c.first_node-id.result c.node_mut-first.result.now c.node_mut-first.ensures.value c.first_node-id.ensures.first c.first_node-id.ensures.front
    c.take_left-item.new.self c.take_left-item.result.0 c.take_left-item.result.1 c.take_left-item.ensures.child c.take_left-item.ensures.taken
    (node_map (with_node c.args.tree.now c.first_node-id.result c.take_left-item.new.self)) c.first_node-id.result
    (keeps-node c.args.tree.now c.first_node-id.result c.take_left-item.new.self c.item_count.result c.item_count.ensures.value c.if-item_count-gt0.true
    (first-climbs c.args.tree.now c.args.from c.first_node-id.result c.node_mut-first.result.now c.node_mut-first.ensures.value c.first_node-id.ensures.first c.first_node-id.ensures.front
    c.take_left-item.new.self c.take_left-item.result.0 c.take_left-item.result.1 c.take_left-item.ensures.child c.take_left-item.ensures.taken c.requires))

pub returns-clause-taken : goal.returns-clause-taken
returns-clause-taken g c =
    first-taken c.args.tree.now c.args.from c.first_node-id.result c.node_mut-first.result.now c.node_mut-first.ensures.value c.first_node-id.ensures.first c.first_node-id.ensures.front
    c.take_left-item.new.self c.take_left-item.result.0 c.take_left-item.result.1 c.take_left-item.ensures.child c.take_left-item.ensures.taken
    (node_map c.release_spent-top.new.tree) c.release_spent-top.result c.release_spent-top.ensures.released
