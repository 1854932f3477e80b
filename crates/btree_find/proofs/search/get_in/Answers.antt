use Rattle.btree_find.proofs.Common.{◌∙◌}
use Rattle.btree_find.proofs.SearchLemmas.{search-begins, node-used, node-ascends, hit-value, down, miss-value}
use Rattle.btree_find.proofs.search.get_in.Goals as goal

pub loop-offset-init : goal.loop-offset-init
loop-offset-init g c = search-begins g.Q.Query.compare c.args.key.now g.met.K.Ord.total g.met.Q.Query.cuts c.args.tree.now c.requires.tree c.args.top c.requires.used

pub node-node-requires : goal.node-node-requires
node-node-requires g c = (c.tell_fits.ensures, node-used g.Q.Query.compare c.args.key.now g.met.K.Ord.total g.met.Q.Query.cuts c.args.tree.now c.requires.tree c.args.top c.loop-offset.id c.loop-offset.invariant)

pub offset_of-requires : goal.offset_of-requires
offset_of-requires g c = (c.tell_fits.ensures, node-ascends g.Q.Query.compare c.args.key.now g.met.K.Ord.total g.met.Q.Query.cuts c.args.tree.now c.requires.tree c.args.top c.loop-offset.id c.loop-offset.invariant c.node-node.result.now c.node-node.ensures.value)

pub returns-in-Ok : goal.returns-in-Ok
returns-in-Ok g c = c.value_at.ensures ∙ hit-value g.Q.Query.compare c.args.key.now g.met.K.Ord.total g.met.Q.Query.cuts c.args.tree.now c.requires.tree c.args.top c.loop-offset.id c.loop-offset.invariant c.node-node.result.now c.node-node.ensures.value c.in-Ok.offset c.in-Ok.ensures.value

pub loop-offset-smaller : goal.loop-offset-smaller
loop-offset-smaller g c = (down g.Q.Query.compare c.args.key.now g.met.K.Ord.total g.met.Q.Query.cuts c.args.tree.now c.requires.tree c.args.top c.loop-offset.id c.loop-offset.invariant c.node-node.result.now c.node-node.ensures.value c.in-Err.index c.in-Some.child (rw (← c.in-Some.is) c.in-Err.ensures.value)).1

pub loop-offset-preserved : goal.loop-offset-preserved
loop-offset-preserved g c = (down g.Q.Query.compare c.args.key.now g.met.K.Ord.total g.met.Q.Query.cuts c.args.tree.now c.requires.tree c.args.top c.loop-offset.id c.loop-offset.invariant c.node-node.result.now c.node-node.ensures.value c.in-Err.index c.in-Some.child (rw (← c.in-Some.is) c.in-Err.ensures.value)).0

pub returns-in-None : goal.returns-in-None
returns-in-None g c = miss-value g.Q.Query.compare c.args.key.now g.met.K.Ord.total g.met.Q.Query.cuts c.args.tree.now c.requires.tree c.args.top c.loop-offset.id c.loop-offset.invariant c.node-node.result.now c.node-node.ensures.value c.in-Err.index (rw (← c.in-None.is) c.in-Err.ensures.value)

pub value_at-requires : goal.value_at-requires
value_at-requires g c = c.tell_fits.ensures
