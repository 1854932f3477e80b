use Rattle.btree_raw.proofs.Common.{refl, ap, view_of, is_internal, items_of, node_map}
use Rattle.btree_raw.proofs.CutLemmas.{cuts-node, here-there, over-there, part-there, stays-there}
use Rattle.btree_raw.proofs.StateLemmas.{then}
use Rattle.btree_raw.proofs.UpwardLemmas.{is-over, not-over}
use Rattle.btree_raw.proofs.node_changes.cut_node.Goals as goal

pub node_mut-node-requires : goal.node_mut-node-requires
node_mut-node-requires g c = (c.tell_fits.ensures, c.requires.used)

pub returns-then-not-is_overflowing : goal.returns-then-not-is_overflowing
returns-then-not-is_overflowing g c = record {
  nodes = (
    stays-there c.args.tree.now.nodes c.args.id c.node_mut-node.result.now c.node_mut-node.ensures.value
        (not-over (view_of c.node_mut-node.result.now) c.if-not-is_overflowing.ensures),
    refl,
  );
  rest = record { rest = refl };
}

pub split_into-kept-requires : goal.split_into-kept-requires
split_into-kept-requires g c = (
  c.tell_fits.ensures,
  (is-over (view_of c.node_mut-node.result.now) c.if-not-is_overflowing.ensures, (ap (λ n. is_internal (view_of n)) c.empty_leaf-part.ensures, ap (λ n. items_of (view_of n)) c.empty_leaf-part.ensures)),
)

pub adopt_part-right-requires : goal.adopt_part-right-requires
adopt_part-right-requires g c = (
  c.tell_fits.ensures,
  part-there c.args.tree.now.nodes c.args.id c.node_mut-node.result.now c.node_mut-node.ensures.value c.split_into-kept.new.self c.split_into-kept.result.0
      c.split_into-kept.result.1 c.split_into-kept.new.part c.split_into-kept.ensures.left c.split_into-kept.ensures.parts c.args.claims.now.items
      (c.requires.can (over-there c.args.tree.now.nodes c.args.id c.node_mut-node.result.now c.node_mut-node.ensures.value (is-over (view_of c.node_mut-node.result.now) c.if-not-is_overflowing.ensures))),
)

pub returns : goal.returns
returns g c =
    let over = is-over (view_of c.node_mut-node.result.now) c.if-not-is_overflowing.ensures in
    let left =
    part-there c.args.tree.now.nodes c.args.id c.node_mut-node.result.now c.node_mut-node.ensures.value c.split_into-kept.new.self c.split_into-kept.result.0
    c.split_into-kept.result.1 c.split_into-kept.new.part c.split_into-kept.ensures.left c.split_into-kept.ensures.parts c.args.claims.now.items
    (c.requires.can (over-there c.args.tree.now.nodes c.args.id c.node_mut-node.result.now c.node_mut-node.ensures.value over)) in
    record {
      nodes =
          cuts-node (node_map c.args.tree.now) (node_map c.put.new.tree) c.args.id c.args.claims.now.items c.adopt_part-right.new.claims.items
          (view_of c.node_mut-node.result.now) (here-there c.args.tree.now.nodes c.args.id c.node_mut-node.result.now c.node_mut-node.ensures.value) over
          c.parent-parent.result c.parent-parent.ensures.value c.split_into-kept.result.0 c.split_into-kept.result.1 c.adopt_part-right.result c.adopt_part-right.ensures.last
          (c.adopt_part-right.ensures.splits c.put.new.tree c.put.ensures left) (c.adopt_part-right.ensures.leaves c.put.new.tree c.put.ensures left);
      rest = then (record { rest = refl }) (then c.adopt_part-right.ensures.rest c.put.ensures.rest);
    }

pub is_overflowing-requires : goal.is_overflowing-requires
is_overflowing-requires g c = c.tell_fits.ensures

pub parent-parent-requires : goal.parent-parent-requires
parent-parent-requires g c = c.tell_fits.ensures

pub empty_leaf-part-requires : goal.empty_leaf-part-requires
empty_leaf-part-requires g c = c.tell_fits.ensures

pub put-requires : goal.put-requires
put-requires g c = (c.tell_fits.ensures, c.adopt_part-right.ensures.used)
