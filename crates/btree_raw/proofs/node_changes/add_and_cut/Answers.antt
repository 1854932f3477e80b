use Rattle.btree_raw.proofs.Common.{refl, with_node}
use Rattle.btree_store.specs.ContentLaws.{get-insert_same}
use Rattle.btree_raw.proofs.StateLemmas.{used-here}
use Rattle.btree_raw.proofs.StepLemmas.{adds, take-room}
use Rattle.btree_raw.proofs.node_changes.add_and_cut.Goals as goal

pub node_mut-node-requires : goal.node_mut-node-requires
node_mut-node-requires g c = (c.tell_fits.ensures, used-here c.args.tree.now.nodes c.args.id c.requires.can.node c.requires.can.here)

pub insert-requires : goal.insert-requires
insert-requires g c =
    (c.tell_fits.ensures, take-room c.args.tree.now.nodes c.args.id c.node_mut-node.result.now c.node_mut-node.ensures.value c.args.index c.args.child c.from.result c.from.ensures c.requires.can)

pub cut_node-requires : goal.cut_node-requires
cut_node-requires g c = record {
  used = rw (get-insert_same c.args.tree.now.nodes c.args.id c.insert.new.self) refl;
  can = c.requires.can_cut (with_node c.args.tree.now c.args.id c.insert.new.self)
      (record {
        nodes = adds c.args.tree.now.nodes c.args.id c.node_mut-node.result.now c.node_mut-node.ensures.value c.insert.new.self c.args.index c.args.item c.args.child c.from.result c.from.ensures c.requires.can c.insert.ensures;
        rest = record { rest = refl };
      });
}

pub returns : goal.returns
returns g c = record {
  added = with_node c.args.tree.now c.args.id c.insert.new.self;
  adds = record {
    nodes = adds c.args.tree.now.nodes c.args.id c.node_mut-node.result.now c.node_mut-node.ensures.value c.insert.new.self c.args.index c.args.item c.args.child c.from.result c.from.ensures c.requires.can c.insert.ensures;
    rest = record { rest = refl };
  };
  cuts = c.cut_node.ensures;
}
