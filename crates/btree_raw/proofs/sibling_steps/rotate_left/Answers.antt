use Rattle.btree_raw.proofs.Common.{node_map, used-view}
use Rattle.btree_raw.proofs.StateLemmas.{then}
use Rattle.btree_raw.proofs.SiblingLemmas.{left-between, left-first, left-giver, left-room, left-child, left-taker, rotates-left}
use Rattle.btree_raw.proofs.sibling_steps.rotate_left.Goals as goal

pub take_first-requires : goal.take_first-requires
take_first-requires g c = used-view c.args.tree.now.nodes c.args.siblings.right (left-giver (node_map c.args.tree.now) c.args.siblings c.requires)

pub change_separator-down-requires : goal.change_separator-down-requires
change_separator-down-requires g c = left-between (node_map c.args.tree.now) c.args.siblings c.requires (node_map c.take_first.new.tree) c.in-Ok.up c.in-Ok.child c.in-Ok.ensures.taken.nodes

pub put_last-requires : goal.put_last-requires
put_last-requires g c = left-room (node_map c.args.tree.now) c.args.siblings c.requires (node_map c.take_first.new.tree) c.in-Ok.up c.in-Ok.child c.in-Ok.ensures.taken.nodes (node_map c.change_separator-down.new.tree) c.change_separator-down.result c.change_separator-down.ensures.nodes

pub move_child-requires-clause-there : goal.move_child-requires-clause-there
move_child-requires-clause-there g c = left-child (node_map c.args.tree.now) c.args.siblings c.requires (node_map c.take_first.new.tree) c.in-Ok.up c.in-Ok.child c.in-Ok.ensures.taken.nodes (node_map c.change_separator-down.new.tree) c.change_separator-down.result c.change_separator-down.ensures.nodes (node_map c.put_last.new.tree) c.put_last.ensures.nodes

pub move_child-requires-clause-number : goal.move_child-requires-clause-number
move_child-requires-clause-number g c =
    c.tell_numbers.ensures c.args.siblings.left
    (used-view c.args.tree.now.nodes c.args.siblings.left (left-taker (node_map c.args.tree.now) c.args.siblings c.requires))

pub returns-clause-rotates : goal.returns-clause-rotates
returns-clause-rotates g c = record {
  nodes = rotates-left (node_map c.args.tree.now) c.args.siblings c.requires (node_map c.take_first.new.tree) c.in-Ok.up c.in-Ok.child c.in-Ok.ensures.taken.nodes (node_map c.change_separator-down.new.tree) c.change_separator-down.result c.change_separator-down.ensures.nodes (node_map c.put_last.new.tree) c.put_last.ensures.nodes (node_map c.move_child.new.tree) c.move_child.ensures.nodes;
  rest = then (then (then c.in-Ok.ensures.taken.rest c.change_separator-down.ensures.rest) c.put_last.ensures.rest) c.move_child.ensures.rest;
}

pub returns-clause-first : goal.returns-clause-first
returns-clause-first g c = left-first (node_map c.args.tree.now) c.args.siblings c.requires (node_map c.take_first.new.tree) c.in-Ok.up c.in-Ok.child c.in-Ok.ensures.taken.nodes
