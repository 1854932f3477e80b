use Rattle.btree_raw.proofs.Common.{refl}
use Rattle.std.specs.FinMap as map
use Rattle.btree_raw.proofs.SingleNodeLemmas.{gains-last, room-for}
use Rattle.btree_raw.proofs.StateLemmas.{used-here}
use Rattle.btree_raw.proofs.sibling_steps.put_last.Goals as goal

pub node_mut-requires : goal.node_mut-requires
node_mut-requires g c = (c.tell_fits.ensures, used-here c.args.tree.now.nodes c.args.id c.requires.node c.requires.here)

pub push_right-offset-requires : goal.push_right-offset-requires
push_right-offset-requires g c = (c.tell_fits.ensures, room-for c.args.tree.now.nodes c.args.id c.node_mut.result.now c.node_mut.ensures.value c.args.child c.requires)

pub returns : goal.returns
returns g c = record {
  nodes = gains-last c.args.tree.now.nodes c.args.id c.node_mut.result.now c.node_mut.ensures.value (map.insert c.args.tree.now.nodes c.args.id c.push_right-offset.new.self) c.push_right-offset.new.self refl c.args.item c.args.child c.push_right-offset.ensures.after;
  rest = record { rest = refl };
}
