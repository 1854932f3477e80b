use Rattle.btree_raw.proofs.Common.{refl}
use Rattle.std.specs.FinMap as map
use Rattle.btree_raw.proofs.SingleNodeLemmas.{expects-between, changes-item}
use Rattle.btree_raw.proofs.StateLemmas.{used-here}
use Rattle.btree_raw.proofs.sibling_steps.change_separator.Goals as goal

pub node_mut-requires : goal.node_mut-requires
node_mut-requires g c = (c.tell_fits.ensures, used-here c.args.tree.now.nodes c.args.id c.requires.node c.requires.here)

pub replace-requires : goal.replace-requires
replace-requires g c = (c.tell_fits.ensures, expects-between c.args.tree.now.nodes c.args.id c.node_mut.result.now c.node_mut.ensures.value c.args.index c.requires c.from.result c.from.ensures)

pub returns : goal.returns
returns g c = record {
  nodes =
      changes-item c.args.tree.now.nodes c.args.id c.node_mut.result.now c.node_mut.ensures.value c.args.index c.requires (map.insert c.args.tree.now.nodes c.args.id c.replace.new.self) c.replace.new.self
      c.from.result c.from.ensures c.replace.result c.args.item c.replace.ensures.answer c.replace.ensures.after refl;
  rest = record { rest = refl };
}
