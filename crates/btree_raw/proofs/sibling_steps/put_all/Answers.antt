use Rattle.btree_raw.proofs.Common.{◌∙◌, ap, option_map, refl, sym, view_of, size_of}
use Rattle.std.specs.FinMap as map
use Rattle.btree_raw.proofs.SingleNodeLemmas.{gains-all, here-at, room-for-all}
use Rattle.btree_raw.proofs.StateLemmas.{used-here}
use Rattle.btree_raw.proofs.sibling_steps.put_all.Goals as goal

pub node_mut-requires : goal.node_mut-requires
node_mut-requires g c = (c.tell_fits.ensures, used-here c.args.tree.now.nodes c.args.id c.requires.node c.requires.here)

pub append_from-requires : goal.append_from-requires
append_from-requires g c = (c.tell_fits.ensures, room-for-all c.args.tree.now.nodes c.args.id c.node_mut.result.now c.node_mut.ensures.value (view_of c.args.other.now) c.requires)

pub returns-clause-gains : goal.returns-clause-gains
returns-clause-gains g c = record {
  nodes = gains-all c.args.tree.now.nodes c.args.id c.node_mut.result.now c.node_mut.ensures.value (map.insert c.args.tree.now.nodes c.args.id c.append_from.new.self) c.append_from.new.self refl c.args.separator (view_of c.args.other.now) c.append_from.ensures.after;
  rest = record { rest = refl };
}

pub returns-clause-count : goal.returns-clause-count
returns-clause-count g c =
    ap (option_map size_of) (here-at c.args.tree.now.nodes c.args.id c.node_mut.result.now c.node_mut.ensures.value)
    ∙ (sym c.append_from.ensures.offset ∙ c.unwrap.ensures.value)

pub returns-clause-emptied : goal.returns-clause-emptied
returns-clause-emptied g c = c.append_from.ensures.emptied
