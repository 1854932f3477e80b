use Rattle.btree_raw.proofs.Common.{None, ap, option_map, refl, sym, view_of}
use Rattle.btree_raw.proofs.FetchedLemmas.{parent-there}
use Rattle.btree_raw.proofs.LastLemmas.{same-state}
use Rattle.btree_raw.proofs.NeedLemmas.{is-full, not-full, room-no_split}
use Rattle.btree_raw.proofs.StepLemmas.{adds, children-there, leaf-can, leaf-there, take-room}
use Rattle.btree_raw.proofs.node_changes.add_item_at_leaf.Goals as goal

pub node_mut-node-requires : goal.node_mut-node-requires
node_mut-node-requires g c = (c.tell_fits.ensures, c.requires.used)

pub child_count-requires : goal.child_count-requires
child_count-requires g c = c.tell_fits.ensures

pub is_full-requires : goal.is_full-requires
is_full-requires g c = c.tell_fits.ensures

pub insert-requires : goal.insert-requires
insert-requires g c = (c.tell_fits.ensures, take-room c.args.tree.now.nodes c.args.id c.node_mut-node.result.now c.node_mut-node.ensures.value c.args.index None c.from.result c.from.ensures (leaf-can c.args.tree.now.nodes c.args.id c.node_mut-node.result.now c.node_mut-node.ensures.value c.args.index (c.requires.within c.node_mut-node.result.now (sym c.node_mut-node.ensures.value)) c.child_count.result c.child_count.ensures.value c.if-child_count-gt0.false (not-full c.node_mut-node.result.now c.if-is_full.ensures)))

pub returns-clause-can : goal.returns-clause-can
returns-clause-can g c = (leaf-can c.args.tree.now.nodes c.args.id c.node_mut-node.result.now c.node_mut-node.ensures.value c.args.index (c.requires.within c.node_mut-node.result.now (sym c.node_mut-node.ensures.value)) c.child_count.result c.child_count.ensures.value c.if-child_count-gt0.false (not-full c.node_mut-node.result.now c.if-is_full.ensures))

pub returns-clause-added : goal.returns-clause-added
returns-clause-added g c = record {
  nodes = adds c.args.tree.now.nodes c.args.id c.node_mut-node.result.now c.node_mut-node.ensures.value c.insert.new.self c.args.index c.args.item None c.from.result c.from.ensures (leaf-can c.args.tree.now.nodes c.args.id c.node_mut-node.result.now c.node_mut-node.ensures.value c.args.index (c.requires.within c.node_mut-node.result.now (sym c.node_mut-node.ensures.value)) c.child_count.result c.child_count.ensures.value c.if-child_count-gt0.false (not-full c.node_mut-node.result.now c.if-is_full.ensures)) c.insert.ensures;
  rest = record { rest = refl };
}

pub returns-clause-enough : goal.returns-clause-enough
returns-clause-enough g c =
    room-no_split c.args.tree.now c.args.id c.node_mut-node.result.now c.node_mut-node.ensures.value
    (not-full c.node_mut-node.result.now c.if-is_full.ensures)

pub parent-parent-requires : goal.parent-parent-requires
parent-parent-requires g c = c.tell_fits.ensures

pub returns-then-is_full-clause-not_added : goal.returns-then-is_full-clause-not_added
returns-then-is_full-clause-not_added g c = (
  refl,
  record {
    full = record {
      node = view_of c.node_mut-node.result.now;
      here = ap (option_map view_of) (sym c.node_mut-node.ensures.value);
      full = is-full c.node_mut-node.result.now c.if-is_full.ensures;
    };
    leaf = leaf-there c.args.tree.now.nodes c.args.id c.node_mut-node.result.now c.node_mut-node.ensures.value c.child_count.result c.child_count.ensures.value c.if-child_count-gt0.false;
    named = parent-there c.args.tree.now.nodes c.args.id c.node_mut-node.result.now (sym c.node_mut-node.ensures.value) c.parent-parent.result
        c.parent-parent.ensures.value;
  },
)

pub returns-then-is_full-clause-unchanged : goal.returns-then-is_full-clause-unchanged
returns-then-is_full-clause-unchanged g c =
    same-state c.args.tree.now c.args.id c.node_mut-node.result.now c.node_mut-node.result.now c.node_mut-node.ensures.value refl

pub returns-then-child_count-gt0-clause-not_added : goal.returns-then-child_count-gt0-clause-not_added
returns-then-child_count-gt0-clause-not_added g c = (
  refl,
  children-there c.args.tree.now.nodes c.args.id c.node_mut-node.result.now c.node_mut-node.ensures.value c.child_count.result c.child_count.ensures.value
      c.if-child_count-gt0.true,
)

pub returns-then-child_count-gt0-clause-unchanged : goal.returns-then-child_count-gt0-clause-unchanged
returns-then-child_count-gt0-clause-unchanged g c =
    same-state c.args.tree.now c.args.id c.node_mut-node.result.now c.node_mut-node.result.now c.node_mut-node.ensures.value refl
