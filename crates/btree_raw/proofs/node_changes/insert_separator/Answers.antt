use Rattle.btree_raw.proofs.Common.{Some, refl, sym, with_node}
use Rattle.std.specs.FinMap as map
use Rattle.btree_store.specs.ContentLaws.{get-insert_same}
use Rattle.btree_raw.proofs.SeparatorLemmas.{above-used, child-there, index-few, can-add, inserts}
use Rattle.btree_raw.proofs.StepLemmas.{adds, take-room}
use Rattle.btree_raw.proofs.node_changes.insert_separator.Goals as goal

pub node_mut-node-requires : goal.node_mut-node-requires
node_mut-node-requires g c = (c.tell_fits.ensures, above-used c.args.tree.now.nodes c.args.above c.args.id c.requires.can)

pub child_index-requires : goal.child_index-requires
child_index-requires g c = c.tell_fits.ensures

pub unwrap-index-requires : goal.unwrap-index-requires
unwrap-index-requires g c = child-there c.args.tree.now.nodes c.args.above c.args.id c.requires.can c.node_mut-node.result.now (sym c.node_mut-node.ensures.value) c.child_index.result c.child_index.ensures.value

pub insert-requires : goal.insert-requires
insert-requires g c = (
  c.tell_fits.ensures,
  take-room c.args.tree.now.nodes c.args.above c.node_mut-node.result.now c.node_mut-node.ensures.value c.unwrap-index.result
      (Some c.args.right) c.from.result c.from.ensures (can-add c.args.tree.now.nodes c.args.above c.args.id c.requires.can c.node_mut-node.result.now (sym c.node_mut-node.ensures.value) c.child_index.result c.child_index.ensures.value c.unwrap-index.result c.unwrap-index.ensures c.args.right),
)

pub cut_node-requires : goal.cut_node-requires
cut_node-requires g c = record {
  used = rw (get-insert_same c.args.tree.now.nodes c.args.above c.insert.new.self) refl;
  can = c.requires.can_cut (with_node c.args.tree.now c.args.above c.insert.new.self) c.unwrap-index.result (record {
    nodes =
        inserts c.args.tree.now.nodes c.args.above c.args.id c.requires.can c.node_mut-node.result.now (sym c.node_mut-node.ensures.value) c.child_index.result c.child_index.ensures.value c.unwrap-index.result c.unwrap-index.ensures (map.insert c.args.tree.now.nodes c.args.above c.insert.new.self) c.args.median c.args.right
        (adds c.args.tree.now.nodes c.args.above c.node_mut-node.result.now c.node_mut-node.ensures.value c.insert.new.self c.unwrap-index.result
        c.args.median (Some c.args.right) c.from.result c.from.ensures (can-add c.args.tree.now.nodes c.args.above c.args.id c.requires.can c.node_mut-node.result.now (sym c.node_mut-node.ensures.value) c.child_index.result c.child_index.ensures.value c.unwrap-index.result c.unwrap-index.ensures c.args.right) c.insert.ensures);
    rest = record { rest = refl };
  });
}

pub returns-clause-adds : goal.returns-clause-adds
returns-clause-adds g c = record {
  added = with_node c.args.tree.now c.args.above c.insert.new.self;
  adds = record {
    nodes =
        inserts c.args.tree.now.nodes c.args.above c.args.id c.requires.can c.node_mut-node.result.now (sym c.node_mut-node.ensures.value) c.child_index.result c.child_index.ensures.value c.unwrap-index.result c.unwrap-index.ensures (map.insert c.args.tree.now.nodes c.args.above c.insert.new.self) c.args.median c.args.right
        (adds c.args.tree.now.nodes c.args.above c.node_mut-node.result.now c.node_mut-node.ensures.value c.insert.new.self c.unwrap-index.result
        c.args.median (Some c.args.right) c.from.result c.from.ensures (can-add c.args.tree.now.nodes c.args.above c.args.id c.requires.can c.node_mut-node.result.now (sym c.node_mut-node.ensures.value) c.child_index.result c.child_index.ensures.value c.unwrap-index.result c.unwrap-index.ensures c.args.right) c.insert.ensures);
    rest = record { rest = refl };
  };
  cuts = c.cut_node.ensures;
}

pub returns-clause-few : goal.returns-clause-few
returns-clause-few g c = index-few c.args.tree.now.nodes c.args.above c.args.id c.requires.can c.node_mut-node.result.now (sym c.node_mut-node.ensures.value) c.child_index.result c.child_index.ensures.value c.unwrap-index.result c.unwrap-index.ensures
