use Rattle.btree_raw.proofs.Common.{refl, with_node}
use Rattle.btree_raw.proofs.FetchedLemmas.{count-written, parent-written}
use Rattle.btree_raw.proofs.LastLemmas.{goes-lower, goes-right, loses-item, right-start, some-item, still-used, takes-last}
use Rattle.btree_raw.proofs.removal.take_last_below.Goals as goal

pub loop-item-init : goal.loop-item-init
loop-item-init g c = (refl, right-start c.args.tree.now c.args.id c.requires.used)

pub node_mut-node-requires : goal.node_mut-node-requires
node_mut-node-requires g c = (
  c.tell_fits.ensures,
  still-used g.K.Ord.cmp g.met.K.Ord.total c.args.tree.now c.requires.tree c.loop-item.tree c.loop-item.invariant.0
      c.args.id c.loop-item.lower c.loop-item.invariant.1,
)

pub remove_rightmost_leaf-requires : goal.remove_rightmost_leaf-requires
remove_rightmost_leaf-requires g c = (
  c.tell_fits.ensures,
  λ is_leaf. some-item g.K.Ord.cmp g.met.K.Ord.total c.args.tree.now c.requires.tree c.loop-item.tree c.loop-item.invariant.0
      c.args.id c.loop-item.lower c.loop-item.invariant.1 c.node_mut-node.result.now c.node_mut-node.ensures.value,
)

pub returns-in-Ok-clause-taken : goal.returns-in-Ok-clause-taken
returns-in-Ok-clause-taken g c =
    takes-last g.K.Ord.cmp g.met.K.Ord.total c.args.tree.now c.requires.tree c.loop-item.tree c.loop-item.invariant.0
    c.args.id c.loop-item.lower c.loop-item.invariant.1 c.node_mut-node.result.now c.node_mut-node.ensures.value
    c.remove_rightmost_leaf.new.self c.in-Ok.ensures.child c.in-Ok.item c.in-Ok.ensures.item c.in-Ok.ensures.taken

pub returns-in-Ok-clause-tree : goal.returns-in-Ok-clause-tree
returns-in-Ok-clause-tree g c =
    loses-item g.K.Ord.cmp g.met.K.Ord.total c.args.tree.now c.requires.tree
    (with_node c.loop-item.tree c.loop-item.lower c.remove_rightmost_leaf.new.self) c.args.id c.in-Ok.item c.loop-item.lower
    (takes-last g.K.Ord.cmp g.met.K.Ord.total c.args.tree.now c.requires.tree c.loop-item.tree c.loop-item.invariant.0
    c.args.id c.loop-item.lower c.loop-item.invariant.1 c.node_mut-node.result.now c.node_mut-node.ensures.value
    c.remove_rightmost_leaf.new.self c.in-Ok.ensures.child c.in-Ok.item c.in-Ok.ensures.item c.in-Ok.ensures.taken)

pub item_count-count-requires : goal.item_count-count-requires
item_count-count-requires g c = c.tell_fits.ensures

pub parent-parent-requires : goal.parent-parent-requires
parent-parent-requires g c = c.tell_fits.ensures

pub returns-in-Ok-clause-count : goal.returns-in-Ok-clause-count
returns-in-Ok-clause-count g c =
    count-written c.loop-item.tree.nodes c.loop-item.lower c.remove_rightmost_leaf.new.self c.item_count-count.result
    c.item_count-count.ensures.value

pub returns-in-Ok-clause-parent : goal.returns-in-Ok-clause-parent
returns-in-Ok-clause-parent g c =
    parent-written c.loop-item.tree.nodes c.loop-item.lower c.remove_rightmost_leaf.new.self c.parent-parent.result
    c.parent-parent.ensures.value

pub loop-item-smaller : goal.loop-item-smaller
loop-item-smaller g c =
    goes-lower g.K.Ord.cmp g.met.K.Ord.total c.args.tree.now c.requires.tree c.loop-item.tree c.loop-item.invariant.0
    c.args.id c.loop-item.lower c.loop-item.invariant.1 c.node_mut-node.result.now c.node_mut-node.ensures.value c.in-Err.child
    c.in-Err.ensures.child

pub loop-item-preserved : goal.loop-item-preserved
loop-item-preserved g c =
    goes-right g.K.Ord.cmp g.met.K.Ord.total c.args.tree.now c.requires.tree c.loop-item.tree c.loop-item.invariant.0
    c.args.id c.loop-item.lower c.loop-item.invariant.1 c.node_mut-node.result.now c.node_mut-node.ensures.value
    c.remove_rightmost_leaf.new.self c.in-Err.child c.in-Err.ensures.child c.in-Err.ensures.inner
