use Rattle.btree_raw.proofs.Common.{refl, arith, ◌+◌}
use Rattle.std.specs.FinMap as map
use Rattle.btree_raw.proofs.SingleNodeLemmas.{loses-between, next-small, next-within}
use Rattle.btree_raw.proofs.StateLemmas.{used-here}
use Rattle.btree_raw.proofs.sibling_steps.take_separator.Goals as goal

pub node_mut-requires : goal.node_mut-requires
node_mut-requires g c = (c.tell_fits.ensures, used-here c.args.tree.now.nodes c.args.id c.requires.node c.requires.here)

pub overflow_add-index : goal.overflow_add-index
overflow_add-index g c = let n = next-small c.args.tree.now.nodes c.args.id c.node_mut.result.now c.node_mut.ensures.value c.args.index c.requires in omega arith

pub merge-index-requires : goal.merge-index-requires
merge-index-requires g c = (c.tell_fits.ensures, (refl, next-within c.args.tree.now.nodes c.args.id c.node_mut.result.now c.node_mut.ensures.value c.args.index c.requires (c.args.index + 1) refl))

pub returns : goal.returns
returns g c = record {
  nodes = loses-between c.args.tree.now.nodes c.args.id c.node_mut.result.now c.node_mut.ensures.value (map.insert c.args.tree.now.nodes c.args.id c.merge-index.new.self) c.merge-index.new.self refl c.args.index c.merge-index.result.3 c.merge-index.ensures.item c.merge-index.ensures.after;
  rest = record { rest = refl };
}
