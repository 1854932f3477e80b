use Rattle.btree_raw.proofs.Common.{subst, arith, rules, WritesNode, node_map, used-view, common_steps}
use Rattle.btree_raw.proofs.OverflowLemmas.{left-there, right-still, grows-root}
use Rattle.btree_raw.proofs.StateLemmas.{then}
use Rattle.btree_raw.proofs.splits.grow_root.Goals as goal

pub put-requires : goal.put-requires
put-requires g c = (c.tell_fits.ensures, used-view c.args.tree.now.nodes c.args.root c.requires.can.root_used)

pub set_parent-requires-clause-used : goal.set_parent-requires-clause-used
set_parent-requires-clause-used g c =
    used-view c.put.new.tree.nodes c.args.left
    (left-there (node_map c.args.tree.now) c.args.left c.args.right c.args.root c.args.median c.requires.can (node_map c.put.new.tree)
    (subst (λ v. WritesNode (node_map c.args.tree.now) (node_map c.put.new.tree) c.args.root v) c.binary.ensures c.put.ensures.nodes))

pub set_parent-requires-2-clause-used : goal.set_parent-requires-2-clause-used
set_parent-requires-2-clause-used g c =
    used-view c.set_parent.new.tree.nodes c.args.right
    (right-still (node_map c.args.tree.now) c.args.left c.args.right c.args.root c.args.median c.requires.can (node_map c.put.new.tree)
    (subst (λ v. WritesNode (node_map c.args.tree.now) (node_map c.put.new.tree) c.args.root v) c.binary.ensures c.put.ensures.nodes)
    (node_map c.set_parent.new.tree) c.set_parent.ensures.nodes)

pub returns : goal.returns
returns g c = record {
  nodes =
      grows-root (node_map c.args.tree.now) c.args.left c.args.right c.args.root c.args.median c.requires.can (node_map c.put.new.tree)
      (subst (λ v. WritesNode (node_map c.args.tree.now) (node_map c.put.new.tree) c.args.root v) c.binary.ensures c.put.ensures.nodes)
      (node_map c.set_parent.new.tree) c.set_parent.ensures.nodes (node_map c.set_parent-2.new.tree) c.set_parent-2.ensures.nodes;
  rest = then (then c.put.ensures.rest c.set_parent.ensures.rest) c.set_parent-2.ensures.rest;
}

pub tell_fits-requires : goal.tell_fits-requires
tell_fits-requires g c κs = search rules steps 200000

pub set_parent-requires-clause-number : goal.set_parent-requires-clause-number
set_parent-requires-clause-number g c = grind (arith, common_steps) steps 300000

pub set_parent-requires-2-clause-number : goal.set_parent-requires-2-clause-number
set_parent-requires-2-clause-number g c = grind (arith, common_steps) steps 300000

pub binary-requires : goal.binary-requires
binary-requires g c = c.tell_fits.ensures
