use Rattle.btree_raw.proofs.Common.{ap, option_map, view_of}
use Rattle.std.specs.FinMap as map
use Rattle.btree_raw.proofs.CountLemmas.{count-all, count-there}
use Rattle.btree_raw.proofs.FetchedLemmas.{parent-there}
use Rattle.btree_raw.proofs.NeedLemmas.{is-full, not-full}
use Rattle.btree_raw.proofs.needs.split_need.Goals as goal

pub node-node-requires : goal.node-node-requires
node-node-requires g c = (c.tell_fits.ensures, count-there c.args.tree.now.nodes (map.len c.args.tree.now.nodes) c.args.start c.args.start 0 c.requires)

pub is_full-requires : goal.is_full-requires
is_full-requires g c = c.tell_fits.ensures

pub returns-then-not-is_full-clause-value : goal.returns-then-not-is_full-clause-value
returns-then-not-is_full-clause-value g c =
    (count-all c.args.tree.now.nodes (map.len c.args.tree.now.nodes) c.args.start c.args.start 0 c.requires (view_of c.node-node.result.now) (ap (option_map view_of) c.node-node.ensures.value)
    (not-full c.node-node.result.now c.if-not-is_full.ensures)).0

pub parent-parent-requires : goal.parent-parent-requires
parent-parent-requires g c = c.tell_fits.ensures

pub split_need_above-requires-clause-full : goal.split_need_above-requires-clause-full
split_need_above-requires-clause-full g c = record {
  node = view_of c.node-node.result.now;
  here = ap (option_map view_of) c.node-node.ensures.value;
  full = is-full c.node-node.result.now c.if-not-is_full.ensures;
}

pub split_need_above-requires-clause-parent : goal.split_need_above-requires-clause-parent
split_need_above-requires-clause-parent g c =
    parent-there c.args.tree.now.nodes c.args.start c.node-node.result.now c.node-node.ensures.value c.parent-parent.result
    c.parent-parent.ensures.value
