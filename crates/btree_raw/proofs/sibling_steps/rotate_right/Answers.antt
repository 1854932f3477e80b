use Rattle.btree_raw.proofs.Common.{◌∙◌, ap, option_map, sym, first_in, node_map, used-view}
use Rattle.btree_raw.proofs.StateLemmas.{then}
use Rattle.btree_raw.proofs.SiblingLemmas.{right-between, right-giver, right-room, right-child, right-same, right-taker, rotates-right}
use Rattle.btree_raw.proofs.sibling_steps.rotate_right.Goals as goal

pub take_last-requires : goal.take_last-requires
take_last-requires g c = used-view c.args.tree.now.nodes c.args.siblings.left (right-giver (node_map c.args.tree.now) c.args.siblings c.requires)

pub change_separator-down-requires : goal.change_separator-down-requires
change_separator-down-requires g c = right-between (node_map c.args.tree.now) c.args.siblings c.requires (node_map c.take_last.new.tree) c.in-Ok.up c.in-Ok.child c.in-Ok.ensures.taken.nodes

pub put_first-first-requires : goal.put_first-first-requires
put_first-first-requires g c = right-room (node_map c.args.tree.now) c.args.siblings c.requires (node_map c.take_last.new.tree) c.in-Ok.up c.in-Ok.child c.in-Ok.ensures.taken.nodes (node_map c.change_separator-down.new.tree) c.change_separator-down.result c.change_separator-down.ensures.nodes

pub move_child-requires-clause-there : goal.move_child-requires-clause-there
move_child-requires-clause-there g c = right-child (node_map c.args.tree.now) c.args.siblings c.requires (node_map c.take_last.new.tree) c.in-Ok.up c.in-Ok.child c.in-Ok.ensures.taken.nodes (node_map c.change_separator-down.new.tree) c.change_separator-down.result c.change_separator-down.ensures.nodes (node_map c.put_first-first.new.tree) c.put_first-first.ensures.gains.nodes

pub move_child-requires-clause-number : goal.move_child-requires-clause-number
move_child-requires-clause-number g c =
    c.tell_numbers.ensures c.args.siblings.right
    (used-view c.args.tree.now.nodes c.args.siblings.right (right-taker (node_map c.args.tree.now) c.args.siblings c.requires))

pub returns-clause-rotates : goal.returns-clause-rotates
returns-clause-rotates g c = record {
  nodes = rotates-right (node_map c.args.tree.now) c.args.siblings c.requires (node_map c.take_last.new.tree) c.in-Ok.up c.in-Ok.child c.in-Ok.ensures.taken.nodes (node_map c.change_separator-down.new.tree) c.change_separator-down.result c.change_separator-down.ensures.nodes (node_map c.put_first-first.new.tree) c.put_first-first.ensures.gains.nodes (node_map c.move_child.new.tree) c.move_child.ensures.nodes;
  rest = then (then (then c.in-Ok.ensures.taken.rest c.change_separator-down.ensures.rest) c.put_first-first.ensures.gains.rest) c.move_child.ensures.rest;
}

pub returns-clause-first : goal.returns-clause-first
returns-clause-first g c =
    ap (option_map first_in) (sym (right-same (node_map c.args.tree.now) c.args.siblings c.requires (node_map c.take_last.new.tree) c.in-Ok.up c.in-Ok.child c.in-Ok.ensures.taken.nodes (node_map c.change_separator-down.new.tree) c.change_separator-down.result c.change_separator-down.ensures.nodes))
    ∙ c.put_first-first.ensures.first

pub returns-in-Err-clause-short : goal.returns-in-Err-clause-short
returns-in-Err-clause-short g c = c.in-Err.ensures.short

pub returns-in-Err-clause-unchanged : goal.returns-in-Err-clause-unchanged
returns-in-Err-clause-unchanged g c = c.in-Err.ensures.unchanged

pub returns-clause-count : goal.returns-clause-count
returns-clause-count g c = c.in-Ok.ensures.count

pub returns-clause-spare : goal.returns-clause-spare
returns-clause-spare g c = c.in-Ok.ensures.spare
