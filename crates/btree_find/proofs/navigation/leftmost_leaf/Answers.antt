use Rattle.btree_find.proofs.Common.{refl}
use Rattle.btree_find.proofs.WalkLemmas.{descend-end, descend-next, descend-smaller}
use Rattle.btree_find.proofs.navigation.leftmost_leaf.Goals as goal

pub loop-child-init : goal.loop-child-init
loop-child-init g c = record { used = c.requires.used; leads = λ place i. i; same = λ l. refl; first = refl }

pub node-requires : goal.node-requires
node-requires g c = (c.tell_fits.ensures, c.loop-child.invariant.used)

pub loop-child-smaller : goal.loop-child-smaller
loop-child-smaller g c = descend-smaller g.K.Ord.cmp g.met.K.Ord.total c.args.tree.now c.requires.tree c.args.top c.loop-child.id c.loop-child.invariant c.node.result.now c.node.ensures.value c.in-Some.child c.in-Some.ensures

pub loop-child-preserved : goal.loop-child-preserved
loop-child-preserved g c = descend-next g.K.Ord.cmp g.met.K.Ord.total c.args.tree.now c.requires.tree c.args.top c.loop-child.id c.loop-child.invariant c.node.result.now c.node.ensures.value c.in-Some.child c.in-Some.ensures

pub returns-in-None : goal.returns-in-None
returns-in-None g c = descend-end g.K.Ord.cmp g.met.K.Ord.total c.args.tree.now c.requires.tree c.args.top c.loop-child.id c.loop-child.invariant c.node.result.now c.node.ensures.value c.in-None.ensures

pub child_id_opt-requires : goal.child_id_opt-requires
child_id_opt-requires g c = c.tell_fits.ensures
