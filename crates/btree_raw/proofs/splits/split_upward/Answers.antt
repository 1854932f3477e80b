use Rattle.btree_raw.proofs.Common.{node_map, used-view}
use Rattle.btree_raw.proofs.UpwardLemmas.{can-cut, upward-start, upward-used}
use Rattle.btree_raw.proofs.splits.split_upward.Goals as goal

pub cut_node-cut-requires-clause-used : goal.cut_node-cut-requires-clause-used
cut_node-cut-requires-clause-used g c =
    used-view c.args.tree.now.nodes c.args.start
    (upward-used _ (node_map c.args.tree.now) (node_map c.args.tree.now) c.args.tree.now.root c.args.start c.args.start c.args.claims.now.items
    c.args.claims.now.items c.args.addr c.args.addr c.requires.splitting
    (upward-start _ (node_map c.args.tree.now) c.args.tree.now.root c.args.start c.args.claims.now.items c.args.addr c.requires.numbers))

pub cut_node-cut-requires-clause-can : goal.cut_node-cut-requires-clause-can
cut_node-cut-requires-clause-can g c =
    can-cut _ (node_map c.args.tree.now) (node_map c.args.tree.now) c.args.tree.now.root c.args.start c.args.start c.args.claims.now.items
    c.args.claims.now.items c.args.addr c.args.addr c.requires.splitting
    (upward-start _ (node_map c.args.tree.now) c.args.tree.now.root c.args.start c.args.claims.now.items c.args.addr c.requires.numbers)

pub split_from-requires : goal.split_from-requires
split_from-requires g c =
    record { begun = (c.args.tree.now, c.args.claims.now.items, record { splitting = c.requires.splitting; low = c.requires.numbers; cuts = c.cut_node-cut.ensures }) }

pub returns-clause-split : goal.returns-clause-split
returns-clause-split g c =
    c.split_from.ensures.split c.args.tree.now c.args.claims.now.items
    (record { splitting = c.requires.splitting; low = c.requires.numbers; cuts = c.cut_node-cut.ensures })
