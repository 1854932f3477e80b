use Rattle.btree_owned_walk.proofs.Common.{refl, node_map}
use Rattle.std.specs.FinMap as map
use Rattle.btree_raw.proofs.StateLemmas.{then}
use Rattle.btree_owned_walk.proofs.StepLemmas.{false-true, keeps-nodes, releasing-start, releasing-stops, releasing-there, releasing-used, removal-ends, removal-up, removed-less}
use Rattle.btree_owned_walk.proofs.spent.release_spent.Goals as goal

pub loop-tree-init : goal.loop-tree-init
loop-tree-init g c = (releasing-start (node_map c.args.tree.now) (node_map c.args.tree.now) c.args.start c.args.start refl refl c.requires, record { rest = refl })

pub is_spent-requires : goal.is_spent-requires
is_spent-requires g c = releasing-there c.args.tree.now c.loop-tree.tree c.args.start c.loop-tree.id c.loop-tree.invariant.0

pub release_node-node-requires : goal.release_node-node-requires
release_node-node-requires g c = (c.tell_fits.ensures, releasing-there c.args.tree.now c.loop-tree.tree c.args.start c.loop-tree.id c.loop-tree.invariant.0)

pub loop-tree-smaller : goal.loop-tree-smaller
loop-tree-smaller g c =
    rw c.release_node-node.ensures.after (removed-less c.loop-tree.tree.nodes c.loop-tree.id c.release_node-node.result c.release_node-node.ensures.node)

pub loop-tree-preserved : goal.loop-tree-preserved
loop-tree-preserved g c = (
  removal-up c.args.tree.now c.loop-tree.tree c.release_node-node.new.self c.args.start c.loop-tree.id c.loop-tree.invariant.0 c.release_node-node.result
      c.release_node-node.ensures.node (c.loop-tree-test.ensures.0 refl) c.release_node-node.ensures.after c.in-Some.parent c.parent-parent.result c.parent-parent.ensures.value c.in-Some.is,
  then c.loop-tree.invariant.1 (keeps-nodes c.loop-tree.tree c.release_node-node.new.self (map.remove c.loop-tree.tree.nodes c.loop-tree.id) c.release_node-node.ensures.after),
)

pub returns-in-None-clause-released : goal.returns-in-None-clause-released
returns-in-None-clause-released g c =
    removal-ends c.args.tree.now c.loop-tree.tree c.release_node-node.new.self c.args.start c.loop-tree.id c.loop-tree.invariant.0 c.release_node-node.result
    c.release_node-node.ensures.node (c.loop-tree-test.ensures.0 refl) c.release_node-node.ensures.after c.parent-parent.result c.parent-parent.ensures.value c.in-None.is

pub returns-in-None-clause-rest : goal.returns-in-None-clause-rest
returns-in-None-clause-rest g c =
    then c.loop-tree.invariant.1 (keeps-nodes c.loop-tree.tree c.release_node-node.new.self (map.remove c.loop-tree.tree.nodes c.loop-tree.id) c.release_node-node.ensures.after)

pub returns-clause-released : goal.returns-clause-released
returns-clause-released g c =
    let u = releasing-used (node_map c.args.tree.now) (node_map c.loop-tree.tree) c.args.start c.loop-tree.id c.loop-tree.invariant.0 in
    releasing-stops (node_map c.args.tree.now) (node_map c.loop-tree.tree) c.args.start c.loop-tree.id c.loop-tree.invariant.0 u.0 u.1
    (λ s. false-true (c.loop-tree-test.ensures.1 s))
