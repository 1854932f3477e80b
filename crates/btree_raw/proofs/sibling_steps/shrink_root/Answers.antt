use Rattle.btree_raw.proofs.Common.{◌∙◌, Some, ap, option_map, sym, rules, size_of, node_map, used-view}
use Rattle.btree_raw.proofs.SingleNodeLemmas.{child-same, child-used, first-at, loses, shrinks_root}
use Rattle.btree_raw.proofs.StateLemmas.{nodes-of, removed, then}
use Rattle.btree_raw.proofs.sibling_steps.shrink_root.Goals as goal

pub tell_fits-requires : goal.tell_fits-requires
tell_fits-requires g c κs = search rules steps 200000

pub release_node-node-requires : goal.release_node-node-requires
release_node-node-requires g c = (c.tell_fits.ensures, c.requires.used)

pub returns-in_default-clause-leaf : goal.returns-in_default-clause-leaf
returns-in_default-clause-leaf g c =
    first-at c.args.tree.now.nodes c.args.root c.release_node-node.result c.child_id_opt-first.result c.release_node-node.ensures.node
    c.child_id_opt-first.ensures
    ∙ ap Some c.in_default.is

pub returns-in_default-clause-removes : goal.returns-in_default-clause-removes
returns-in_default-clause-removes g c = record {
  nodes = loses c.args.tree.now.nodes c.release_node-node.new.self.nodes c.args.root (nodes-of c.release_node-node.ensures.after);
  rest = removed c.args.root c.release_node-node.ensures.after;
}

pub clear_parent-held-requires : goal.clear_parent-held-requires
clear_parent-held-requires g c =
    let first = first-at c.args.tree.now.nodes c.args.root c.release_node-node.result c.child_id_opt-first.result c.release_node-node.ensures.node
    c.child_id_opt-first.ensures ∙ ap Some c.in-Some.is in
    used-view c.release_node-node.new.self.nodes c.in-Some.child
    (child-used (node_map c.args.tree.now) (node_map c.release_node-node.new.self) c.args.root c.in-Some.child (c.requires.can c.in-Some.child first)
    (loses c.args.tree.now.nodes c.release_node-node.new.self.nodes c.args.root (nodes-of c.release_node-node.ensures.after)))

pub returns-clause-shrinks : goal.returns-clause-shrinks
returns-clause-shrinks g c =
    let first = first-at c.args.tree.now.nodes c.args.root c.release_node-node.result c.child_id_opt-first.result c.release_node-node.ensures.node
    c.child_id_opt-first.ensures ∙ ap Some c.in-Some.is in
    record {
      nodes = shrinks_root (node_map c.args.tree.now) (node_map c.release_node-node.new.self) c.args.root c.in-Some.child (c.requires.can c.in-Some.child first) (loses c.args.tree.now.nodes c.release_node-node.new.self.nodes c.args.root (nodes-of c.release_node-node.ensures.after)) (node_map c.clear_parent-held.new.tree) c.clear_parent-held.ensures.clears.nodes;
      rest = then (removed c.args.root c.release_node-node.ensures.after) c.clear_parent-held.ensures.clears.rest;
    }

pub returns-clause-first : goal.returns-clause-first
returns-clause-first g c =
    first-at c.args.tree.now.nodes c.args.root c.release_node-node.result c.child_id_opt-first.result c.release_node-node.ensures.node
    c.child_id_opt-first.ensures ∙ ap Some c.in-Some.is

pub returns-clause-count : goal.returns-clause-count
returns-clause-count g c =
    let first = first-at c.args.tree.now.nodes c.args.root c.release_node-node.result c.child_id_opt-first.result c.release_node-node.ensures.node
    c.child_id_opt-first.ensures ∙ ap Some c.in-Some.is in
    ap (option_map size_of)
    (sym (child-same (node_map c.args.tree.now) (node_map c.release_node-node.new.self) c.args.root c.in-Some.child (c.requires.can c.in-Some.child first)
    (loses c.args.tree.now.nodes c.release_node-node.new.self.nodes c.args.root (nodes-of c.release_node-node.ensures.after))))
    ∙ c.clear_parent-held.ensures.count

pub child_id_opt-first-requires : goal.child_id_opt-first-requires
child_id_opt-first-requires g c = c.tell_fits.ensures

pub returns-clause-few : goal.returns-clause-few
returns-clause-few g c = c.clear_parent-held.ensures.few
