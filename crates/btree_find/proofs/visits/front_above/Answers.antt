use Rattle.btree_find.proofs.Common.{◌∙◌, ◌<◌, length, subst, sym, IfSome, view_of, children_of}
use Rattle.btree_find.proofs.VisitsLemmas.{front-first, front-up}
use Rattle.btree_find.proofs.ParentLemmas.{child-there, index-there, parent-used}
use Rattle.btree_find.proofs.WalkLemmas.{children-few}
use Rattle.btree_find.proofs.visits.front_above.Goals as goal

pub returns-in_default : goal.returns-in_default
returns-in_default g c = front-first g.K.Ord.cmp g.met.K.Ord.total c.args.tree.now c.requires.tree c.args.id c.args.node.now c.requires.node (sym c.parent.ensures.value ∙ c.in_default.is)

pub node-requires : goal.node-requires
node-requires g c = (c.tell_fits.ensures, parent-used g.K.Ord.cmp g.met.K.Ord.total c.args.tree.now c.requires.tree c.args.id c.args.node.now c.requires.node c.in-Some.parent (sym c.parent.ensures.value ∙ c.in-Some.is))

pub unwrap-index-requires : goal.unwrap-index-requires
unwrap-index-requires g c = index-there g.K.Ord.cmp g.met.K.Ord.total c.args.tree.now c.requires.tree c.args.id c.args.node.now c.requires.node c.in-Some.parent (sym c.parent.ensures.value ∙ c.in-Some.is) c.node.result.now c.node.ensures.value c.child_index.result c.child_index.ensures.value

pub returns : goal.returns
returns g c =
    front-up g.K.Ord.cmp g.met.K.Ord.total c.args.tree.now c.requires.tree c.args.id c.args.node.now c.requires.node c.in-Some.parent c.unwrap-index.result
    (child-there g.K.Ord.cmp g.met.K.Ord.total c.args.tree.now c.requires.tree c.args.id c.args.node.now c.requires.node c.in-Some.parent (sym c.parent.ensures.value ∙ c.in-Some.is) c.node.result.now c.node.ensures.value c.child_index.result c.child_index.ensures.value c.unwrap-index.result c.unwrap-index.ensures) c.node.result.now c.node.ensures.value
    (children-few (view_of c.node.result.now) c.unwrap-index.result (subst (λ o. IfSome o (λ index. index < length (children_of (view_of c.node.result.now)))) c.unwrap-index.ensures c.child_index.ensures.within))
    c.slot_before.result c.slot_before.ensures

pub parent-requires : goal.parent-requires
parent-requires g c = c.tell_fits.ensures

pub child_index-requires : goal.child_index-requires
child_index-requires g c = c.tell_fits.ensures
