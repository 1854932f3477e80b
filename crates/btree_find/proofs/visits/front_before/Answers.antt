use Rattle.btree_find.proofs.Common.{◌∙◌, sym}
use Rattle.btree_find.proofs.VisitsLemmas.{front-along, front-down}
use Rattle.btree_find.proofs.PreviousLemmas.{below-used}
use Rattle.btree_find.proofs.visits.front_before.Goals as goal

pub rightmost_leaf-leaf-requires-clause-used : goal.rightmost_leaf-leaf-requires-clause-used
rightmost_leaf-leaf-requires-clause-used g c = below-used g.K.Ord.cmp g.met.K.Ord.total c.args.tree.now c.requires.tree c.args.id c.args.offset c.args.node.now c.requires.node c.in-Some.child c.in-Some.ensures

pub returns-in-Some : goal.returns-in-Some
returns-in-Some g c = front-down g.K.Ord.cmp g.met.K.Ord.total c.args.tree.now c.requires.tree c.args.id c.args.node.now c.requires.node c.args.offset c.requires.within c.in-Some.child c.in-Some.ensures c.rightmost_leaf-leaf.result c.rightmost_leaf-leaf.ensures c.slot_before.result c.slot_before.ensures

pub returns : goal.returns
returns g c = front-along g.K.Ord.cmp g.met.K.Ord.total c.args.tree.now c.requires.tree c.args.id c.args.node.now c.requires.node c.args.offset c.requires.within (sym c.in_default.is ∙ c.child_id_opt.ensures) c.slot_before-2.result c.slot_before-2.ensures

pub child_id_opt-requires : goal.child_id_opt-requires
child_id_opt-requires g c = c.tell_fits.ensures
