use Rattle.btree_raw.proofs.Common.{None, ap, option_map, refl, sym, view_of}
use Rattle.btree_raw.proofs.FetchedLemmas.{parent-there}
use Rattle.btree_raw.proofs.LastLemmas.{same-state}
use Rattle.btree_raw.proofs.NeedLemmas.{is-full, not-full, room-no_split}
use Rattle.btree_raw.proofs.StateLemmas.{used-here}
use Rattle.btree_raw.proofs.StepLemmas.{adds, take-room}
use Rattle.btree_raw.proofs.node_changes.add_item_in_room.Goals as goal

pub node_mut-leaf-requires : goal.node_mut-leaf-requires
node_mut-leaf-requires g c = (c.tell_fits.ensures, used-here c.args.tree.now.nodes c.args.id c.requires.node c.requires.here)

pub insert-requires : goal.insert-requires
insert-requires g c =
    (c.tell_fits.ensures, take-room c.args.tree.now.nodes c.args.id c.node_mut-leaf.result.now c.node_mut-leaf.ensures.value c.args.index None c.from.result c.from.ensures c.requires)

pub returns-clause-added : goal.returns-clause-added
returns-clause-added g c =
    record {
      nodes = adds c.args.tree.now.nodes c.args.id c.node_mut-leaf.result.now c.node_mut-leaf.ensures.value c.insert.new.self c.args.index c.args.item None c.from.result c.from.ensures c.requires c.insert.ensures;
      rest = record { rest = refl };
    }

pub returns-clause-enough : goal.returns-clause-enough
returns-clause-enough g c =
    room-no_split c.args.tree.now c.args.id c.node_mut-leaf.result.now c.node_mut-leaf.ensures.value
    (not-full c.node_mut-leaf.result.now c.if-is_full.ensures)

pub parent-parent-requires : goal.parent-parent-requires
parent-parent-requires g c = c.tell_fits.ensures

pub returns-then-is_full-clause-parent : goal.returns-then-is_full-clause-parent
returns-then-is_full-clause-parent g c =
    parent-there c.args.tree.now.nodes c.args.id c.node_mut-leaf.result.now (sym c.node_mut-leaf.ensures.value) c.parent-parent.result
    c.parent-parent.ensures.value

pub returns-then-is_full-clause-full : goal.returns-then-is_full-clause-full
returns-then-is_full-clause-full g c = record {
  node = view_of c.node_mut-leaf.result.now;
  here = ap (option_map view_of) (sym c.node_mut-leaf.ensures.value);
  full = is-full c.node_mut-leaf.result.now c.if-is_full.ensures;
}

pub returns-then-is_full-clause-unchanged : goal.returns-then-is_full-clause-unchanged
returns-then-is_full-clause-unchanged g c =
    same-state c.args.tree.now c.args.id c.node_mut-leaf.result.now c.node_mut-leaf.result.now c.node_mut-leaf.ensures.value refl

pub is_full-requires : goal.is_full-requires
is_full-requires g c = c.tell_fits.ensures
