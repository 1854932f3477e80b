use Rattle.btree_raw.proofs.Common.{◌∙◌, ap, arith, option_map, refl, sym, view_of, size_of, first_in, node_map, used-view}
use Rattle.btree_raw.proofs.SingleNodeLemmas.{first-at, loses}
use Rattle.btree_raw.proofs.StateLemmas.{nodes-of, removed, then}
use Rattle.btree_raw.proofs.SiblingLemmas.{adopts-both, between-here, low-same, merge-taker, merges, other-same, other-there, room-both}
use Rattle.btree_raw.proofs.sibling_steps.merge.Goals as goal

pub take_separator-down-requires : goal.take_separator-down-requires
take_separator-down-requires g c = between-here (node_map c.args.tree.now) c.args.siblings c.requires.pair

pub take_node-requires : goal.take_node-requires
take_node-requires g c = (
  c.tell_fits.ensures,
  (
    used-view c.take_separator-down.new.tree.nodes c.args.siblings.right
        (other-there (node_map c.args.tree.now) c.args.siblings c.requires (node_map c.take_separator-down.new.tree) c.take_separator-down.result c.take_separator-down.ensures.nodes),
    c.empty_leaf-other.ensures,
  ),
)

pub adopt-requires : goal.adopt-requires
adopt-requires g c = (
  c.tell_fits.ensures,
  (
    adopts-both (node_map c.args.tree.now) c.args.siblings c.requires (node_map c.take_separator-down.new.tree) c.take_separator-down.result c.take_separator-down.ensures.nodes (node_map c.take_node.new.tree) (loses c.take_separator-down.new.tree.nodes c.take_node.new.tree.nodes c.args.siblings.right (nodes-of c.take_node.ensures.after)) (view_of c.take_node.new.part) (ap (option_map view_of) c.take_node.ensures.node),
    c.tell_numbers.ensures c.args.siblings.left
        (used-view c.args.tree.now.nodes c.args.siblings.left (merge-taker (node_map c.args.tree.now) c.args.siblings c.requires)),
  ),
)

pub put_all-held-requires : goal.put_all-held-requires
put_all-held-requires g c = (c.tell_fits.ensures, room-both (node_map c.args.tree.now) c.args.siblings c.requires (node_map c.take_separator-down.new.tree) c.take_separator-down.result c.take_separator-down.ensures.nodes (node_map c.take_node.new.tree) (loses c.take_separator-down.new.tree.nodes c.take_node.new.tree.nodes c.args.siblings.right (nodes-of c.take_node.ensures.after)) (view_of c.take_node.new.part) (ap (option_map view_of) c.take_node.ensures.node) (node_map c.adopt.new.tree) c.adopt.ensures.nodes)

pub returns-clause-merges : goal.returns-clause-merges
returns-clause-merges g c = record {
  nodes = merges (node_map c.args.tree.now) c.args.siblings c.requires (node_map c.take_separator-down.new.tree) c.take_separator-down.result c.take_separator-down.ensures.nodes (node_map c.take_node.new.tree) (loses c.take_separator-down.new.tree.nodes c.take_node.new.tree.nodes c.args.siblings.right (nodes-of c.take_node.ensures.after)) (view_of c.take_node.new.part) (ap (option_map view_of) c.take_node.ensures.node) (node_map c.adopt.new.tree) c.adopt.ensures.nodes refl (node_map c.put_all-held.new.tree) c.put_all-held.ensures.gains.nodes;
  rest = then (then (then c.take_separator-down.ensures.rest (removed c.args.siblings.right c.take_node.ensures.after)) c.adopt.ensures.rest) c.put_all-held.ensures.gains.rest;
}

pub returns-clause-count : goal.returns-clause-count
returns-clause-count g c =
    ap (option_map size_of) (sym (low-same (node_map c.args.tree.now) c.args.siblings c.requires (node_map c.take_separator-down.new.tree) c.take_separator-down.result c.take_separator-down.ensures.nodes (node_map c.take_node.new.tree) (loses c.take_separator-down.new.tree.nodes c.take_node.new.tree.nodes c.args.siblings.right (nodes-of c.take_node.ensures.after)) (view_of c.take_node.new.part) (ap (option_map view_of) c.take_node.ensures.node) (node_map c.adopt.new.tree) c.adopt.ensures.nodes))
    ∙ c.put_all-held.ensures.count

pub returns-clause-first : goal.returns-clause-first
returns-clause-first g c =
    ap (option_map first_in) (sym (other-same (node_map c.args.tree.now) c.args.siblings c.requires (node_map c.take_separator-down.new.tree) c.take_separator-down.result c.take_separator-down.ensures.nodes))
    ∙ first-at c.take_separator-down.new.tree.nodes c.args.siblings.right c.take_node.new.part c.child_id_opt-first.result
    c.take_node.ensures.node c.child_id_opt-first.ensures

pub array_drop-other-requires-2 : goal.array_drop-other-requires-2
array_drop-other-requires-2 g c = let fits = c.tell_fits.ensures in omega arith

pub empty_leaf-other-requires : goal.empty_leaf-other-requires
empty_leaf-other-requires g c = c.tell_fits.ensures

pub child_id_opt-first-requires : goal.child_id_opt-first-requires
child_id_opt-first-requires g c = c.tell_fits.ensures
