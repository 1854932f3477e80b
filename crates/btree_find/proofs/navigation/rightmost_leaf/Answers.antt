use Rattle.btree_raw.proofs.PlacedLemmas.{but-length}
use Rattle.btree_raw.proofs.LastLemmas.{right-end, right-next, right-smaller, right-start}
use Rattle.btree_find.proofs.navigation.rightmost_leaf.Goals as goal

pub loop-child-init : goal.loop-child-init
loop-child-init g c = right-start c.args.tree.now c.args.top c.requires.used

pub node-node-requires : goal.node-node-requires
node-node-requires g c = (c.tell_fits.ensures, c.loop-child.invariant.used)

pub loop-child-smaller : goal.loop-child-smaller
loop-child-smaller g c = right-smaller g.K.Ord.cmp g.met.K.Ord.total c.args.tree.now (but-length g.K.Ord.cmp c.args.tree.now c.requires.tree) c.args.top c.loop-child.id c.loop-child.invariant c.node-node.result.now c.node-node.ensures.value c.item_count-count.result c.item_count-count.ensures.value c.in-Some.child c.in-Some.ensures

pub loop-child-preserved : goal.loop-child-preserved
loop-child-preserved g c = right-next g.K.Ord.cmp g.met.K.Ord.total c.args.tree.now (but-length g.K.Ord.cmp c.args.tree.now c.requires.tree) c.args.top c.loop-child.id c.loop-child.invariant c.node-node.result.now c.node-node.ensures.value c.item_count-count.result c.item_count-count.ensures.value c.in-Some.child c.in-Some.ensures

pub returns-in-None : goal.returns-in-None
returns-in-None g c = right-end g.K.Ord.cmp g.met.K.Ord.total c.args.tree.now (but-length g.K.Ord.cmp c.args.tree.now c.requires.tree) c.args.top c.loop-child.id c.loop-child.invariant c.node-node.result.now c.node-node.ensures.value c.item_count-count.result c.item_count-count.ensures.value c.in-None.ensures

pub item_count-count-requires : goal.item_count-count-requires
item_count-count-requires g c = c.tell_fits.ensures

pub child_id_opt-requires : goal.child_id_opt-requires
child_id_opt-requires g c = c.tell_fits.ensures
