use Rattle.btree_raw.proofs.Common.{◌∙◌, Some, ap, option_map, refl, sym, rules, size_of}
use Rattle.std.specs.FinMap as map
use Rattle.btree_raw.proofs.SingleNodeLemmas.{clears-parent, here-at}
use Rattle.btree_raw.proofs.sibling_steps.clear_parent.Goals as goal

pub tell_fits-requires : goal.tell_fits-requires
tell_fits-requires g c κs = search rules steps 200000

pub item_count-count-requires : goal.item_count-count-requires
item_count-count-requires g c = c.tell_fits.ensures

pub set_parent-requires : goal.set_parent-requires
set_parent-requires g c = c.tell_fits.ensures

pub returns-clause-clears : goal.returns-clause-clears
returns-clause-clears g c = record {
  nodes = clears-parent c.args.tree.now.nodes c.args.id c.node_mut-node.result.now c.node_mut-node.ensures.value (map.insert c.args.tree.now.nodes c.args.id c.set_parent.new.self) c.set_parent.new.self refl c.set_parent.ensures;
  rest = record { rest = refl };
}

pub returns-clause-count : goal.returns-clause-count
returns-clause-count g c =
    ap (option_map size_of) (here-at c.args.tree.now.nodes c.args.id c.node_mut-node.result.now c.node_mut-node.ensures.value)
    ∙ ap Some (sym c.item_count-count.ensures.value)

pub node_mut-node-requires : goal.node_mut-node-requires
node_mut-node-requires g c = (c.tell_fits.ensures, c.requires)
