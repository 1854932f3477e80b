use Rattle.btree_raw.proofs.FetchedLemmas.{count-there, parent-there}
use Rattle.btree_raw.proofs.RebalanceLemmas.{off-used}
use Rattle.btree_raw.proofs.rebalance.rebalance_underflow.Goals as goal

pub node-node-requires : goal.node-node-requires
node-node-requires g c = (c.tell_fits.ensures, off-used g.K.Ord.cmp g.met.K.Ord.total c.args.tree.now c.args.id c.requires.off_by_one)

pub item_count-count-requires : goal.item_count-count-requires
item_count-count-requires g c = c.tell_fits.ensures

pub parent-parent-requires : goal.parent-parent-requires
parent-parent-requires g c = c.tell_fits.ensures

pub rebalance_fetched-requires-clause-count : goal.rebalance_fetched-requires-clause-count
rebalance_fetched-requires-clause-count g c =
    count-there c.args.tree.now.nodes c.args.id c.node-node.result.now c.node-node.ensures.value c.item_count-count.result
    c.item_count-count.ensures.value

pub rebalance_fetched-requires-clause-parent : goal.rebalance_fetched-requires-clause-parent
rebalance_fetched-requires-clause-parent g c =
    parent-there c.args.tree.now.nodes c.args.id c.node-node.result.now c.node-node.ensures.value c.parent-parent.result
    c.parent-parent.ensures.value
