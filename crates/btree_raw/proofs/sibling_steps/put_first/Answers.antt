use Rattle.btree_raw.proofs.Common.{refl, rules, sym}
use Rattle.std.specs.FinMap as map
use Rattle.btree_raw.proofs.SingleNodeLemmas.{first-at, gains-first, room-for}
use Rattle.btree_raw.proofs.StateLemmas.{used-here}
use Rattle.btree_raw.proofs.sibling_steps.put_first.Goals as goal

pub node_mut-node-requires : goal.node_mut-node-requires
node_mut-node-requires g c = (c.tell_fits.ensures, used-here c.args.tree.now.nodes c.args.id c.requires.node c.requires.here)

pub push_left-requires : goal.push_left-requires
push_left-requires g c = (c.tell_fits.ensures, room-for c.args.tree.now.nodes c.args.id c.node_mut-node.result.now c.node_mut-node.ensures.value c.args.child c.requires)

pub returns-clause-gains : goal.returns-clause-gains
returns-clause-gains g c = record {
  nodes = gains-first c.args.tree.now.nodes c.args.id c.node_mut-node.result.now c.node_mut-node.ensures.value (map.insert c.args.tree.now.nodes c.args.id c.push_left.new.self) c.push_left.new.self refl c.args.item c.args.child c.push_left.ensures;
  rest = record { rest = refl };
}

pub returns-clause-first : goal.returns-clause-first
returns-clause-first g c =
    first-at c.args.tree.now.nodes c.args.id c.node_mut-node.result.now c.child_id_opt-first.result (sym c.node_mut-node.ensures.value)
    c.child_id_opt-first.ensures

pub child_id_opt-first-requires : goal.child_id_opt-first-requires
child_id_opt-first-requires g c = c.tell_fits.ensures

pub tell_fits-requires : goal.tell_fits-requires
tell_fits-requires g c κs = search rules steps 200000
