use Rattle.btree_raw.proofs.Common.{◌∙◌, ◌+◌, ap, arith, option_map, view_of, node_map}
use Rattle.std.specs.FinMap as map
use Rattle.btree_raw.proofs.CountLemmas.{count-there, count-all, count-top, count-next, count-smaller, count-fits}
use Rattle.btree_raw.proofs.FetchedLemmas.{parent-named, parent-there}
use Rattle.btree_raw.proofs.NeedLemmas.{is-full, not-full}
use Rattle.btree_raw.proofs.needs.split_need_above.Goals as goal

pub loop-above-init : goal.loop-above-init
loop-above-init g c = record { counting = c.requires.counting; full = c.requires.full; parent = c.requires.parent }

pub overflow_add-result : goal.overflow_add-result
overflow_add-result g c = let n = (count-top c.args.tree.now.nodes (map.len c.args.tree.now.nodes) c.args.start c.loop-above.id c.loop-above.counted c.loop-above.invariant.counting c.loop-above.invariant.full.node c.loop-above.invariant.full.here c.loop-above.invariant.full.full (parent-named (node_map c.args.tree.now) c.loop-above.id c.loop-above.invariant.full.node c.loop-above.invariant.full.here c.loop-above.above c.loop-above.invariant.parent ∙ c.in_default.is)).1 in omega arith

pub returns-in_default-clause-value : goal.returns-in_default-clause-value
returns-in_default-clause-value g c = (count-top c.args.tree.now.nodes (map.len c.args.tree.now.nodes) c.args.start c.loop-above.id c.loop-above.counted c.loop-above.invariant.counting c.loop-above.invariant.full.node c.loop-above.invariant.full.here c.loop-above.invariant.full.full (parent-named (node_map c.args.tree.now) c.loop-above.id c.loop-above.invariant.full.node c.loop-above.invariant.full.here c.loop-above.above c.loop-above.invariant.parent ∙ c.in_default.is)).0

pub returns-in_default-clause-few : goal.returns-in_default-clause-few
returns-in_default-clause-few g c = (count-top c.args.tree.now.nodes (map.len c.args.tree.now.nodes) c.args.start c.loop-above.id c.loop-above.counted c.loop-above.invariant.counting c.loop-above.invariant.full.node c.loop-above.invariant.full.here c.loop-above.invariant.full.full (parent-named (node_map c.args.tree.now) c.loop-above.id c.loop-above.invariant.full.node c.loop-above.invariant.full.here c.loop-above.above c.loop-above.invariant.parent ∙ c.in_default.is)).1

pub overflow_add-counted : goal.overflow_add-counted
overflow_add-counted g c = let n = count-fits c.args.tree.now.nodes (map.len c.args.tree.now.nodes) c.args.start c.loop-above.id c.loop-above.counted c.loop-above.invariant.counting c.loop-above.invariant.full.node c.loop-above.invariant.full.here c.loop-above.invariant.full.full c.in-Some.parent (parent-named (node_map c.args.tree.now) c.loop-above.id c.loop-above.invariant.full.node c.loop-above.invariant.full.here c.loop-above.above c.loop-above.invariant.parent ∙ c.in-Some.is) in omega arith

pub node-node-requires : goal.node-node-requires
node-node-requires g c = (c.tell_fits.ensures, count-there c.args.tree.now.nodes (map.len c.args.tree.now.nodes) c.args.start c.in-Some.parent (c.loop-above.counted + 1) (count-next c.args.tree.now.nodes (map.len c.args.tree.now.nodes) c.args.start c.loop-above.id c.loop-above.counted c.loop-above.invariant.counting c.loop-above.invariant.full.node c.loop-above.invariant.full.here c.loop-above.invariant.full.full c.in-Some.parent (parent-named (node_map c.args.tree.now) c.loop-above.id c.loop-above.invariant.full.node c.loop-above.invariant.full.here c.loop-above.above c.loop-above.invariant.parent ∙ c.in-Some.is)))

pub is_full-requires : goal.is_full-requires
is_full-requires g c = c.tell_fits.ensures

pub returns-then-not-is_full-clause-value : goal.returns-then-not-is_full-clause-value
returns-then-not-is_full-clause-value g c =
    (count-all c.args.tree.now.nodes (map.len c.args.tree.now.nodes) c.args.start c.in-Some.parent (c.loop-above.counted + 1) (count-next c.args.tree.now.nodes (map.len c.args.tree.now.nodes) c.args.start c.loop-above.id c.loop-above.counted c.loop-above.invariant.counting c.loop-above.invariant.full.node c.loop-above.invariant.full.here c.loop-above.invariant.full.full c.in-Some.parent (parent-named (node_map c.args.tree.now) c.loop-above.id c.loop-above.invariant.full.node c.loop-above.invariant.full.here c.loop-above.above c.loop-above.invariant.parent ∙ c.in-Some.is)) (view_of c.node-node.result.now) (ap (option_map view_of) c.node-node.ensures.value)
    (not-full c.node-node.result.now c.if-not-is_full.ensures)).0

pub returns-then-not-is_full-clause-few : goal.returns-then-not-is_full-clause-few
returns-then-not-is_full-clause-few g c =
    (count-all c.args.tree.now.nodes (map.len c.args.tree.now.nodes) c.args.start c.in-Some.parent (c.loop-above.counted + 1) (count-next c.args.tree.now.nodes (map.len c.args.tree.now.nodes) c.args.start c.loop-above.id c.loop-above.counted c.loop-above.invariant.counting c.loop-above.invariant.full.node c.loop-above.invariant.full.here c.loop-above.invariant.full.full c.in-Some.parent (parent-named (node_map c.args.tree.now) c.loop-above.id c.loop-above.invariant.full.node c.loop-above.invariant.full.here c.loop-above.above c.loop-above.invariant.parent ∙ c.in-Some.is)) (view_of c.node-node.result.now) (ap (option_map view_of) c.node-node.ensures.value)
    (not-full c.node-node.result.now c.if-not-is_full.ensures)).1

pub parent-above-requires : goal.parent-above-requires
parent-above-requires g c = c.tell_fits.ensures

pub loop-above-smaller : goal.loop-above-smaller
loop-above-smaller g c = count-smaller c.args.tree.now.nodes (map.len c.args.tree.now.nodes) c.args.start c.loop-above.id c.loop-above.counted c.loop-above.invariant.counting c.loop-above.invariant.full.node c.loop-above.invariant.full.here c.loop-above.invariant.full.full c.in-Some.parent (parent-named (node_map c.args.tree.now) c.loop-above.id c.loop-above.invariant.full.node c.loop-above.invariant.full.here c.loop-above.above c.loop-above.invariant.parent ∙ c.in-Some.is)

pub loop-above-preserved : goal.loop-above-preserved
loop-above-preserved g c = record {
  counting = count-next c.args.tree.now.nodes (map.len c.args.tree.now.nodes) c.args.start c.loop-above.id c.loop-above.counted c.loop-above.invariant.counting c.loop-above.invariant.full.node c.loop-above.invariant.full.here c.loop-above.invariant.full.full c.in-Some.parent (parent-named (node_map c.args.tree.now) c.loop-above.id c.loop-above.invariant.full.node c.loop-above.invariant.full.here c.loop-above.above c.loop-above.invariant.parent ∙ c.in-Some.is);
  full = record {
    node = view_of c.node-node.result.now;
    here = ap (option_map view_of) c.node-node.ensures.value;
    full = is-full c.node-node.result.now c.if-not-is_full.ensures;
  };
  parent =
      parent-there c.args.tree.now.nodes c.in-Some.parent c.node-node.result.now c.node-node.ensures.value c.parent-above.result
      c.parent-above.ensures.value;
}
