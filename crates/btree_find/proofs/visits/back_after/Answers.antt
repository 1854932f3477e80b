use Rattle.btree_find.proofs.Common.{◌∙◌, ◌+◌, ◌<◌, arith, length, subst, sym, IfSome, view_of, children_of}
use Rattle.btree_find.proofs.VisitsLemmas.{back-along, back-down, back-last, back-up, size-few}
use Rattle.btree_find.proofs.ParentLemmas.{child-there, index-there, parent-used}
use Rattle.btree_find.proofs.PreviousLemmas.{below-used}
use Rattle.btree_find.proofs.WalkLemmas.{address-is, children-few}
use Rattle.btree_find.proofs.visits.back_after.Goals as goal

pub leftmost_leaf-requires-clause-used : goal.leftmost_leaf-requires-clause-used
leftmost_leaf-requires-clause-used g c = below-used g.K.Ord.cmp g.met.K.Ord.total c.args.tree.now c.requires.tree c.args.id (c.args.offset + 1) c.args.node.now c.requires.node c.in-Some.child c.in-Some.ensures

pub returns-in-Some : goal.returns-in-Some
returns-in-Some g c =
    back-down g.K.Ord.cmp g.met.K.Ord.total c.args.tree.now c.requires.tree c.args.id c.args.node.now c.requires.node c.args.offset c.requires.within c.in-Some.child c.in-Some.ensures c.leftmost_leaf.result c.leftmost_leaf.ensures c.new.result
    (address-is c.new.result c.leftmost_leaf.result 0 c.from.result (omega arith) c.from.ensures c.new.ensures)

pub returns-then-offset-count : goal.returns-then-offset-count
returns-then-offset-count g c =
    let n = c.item_count-count.ensures.value in
    let f = c.item_count-count.ensures.fits in
    let l = c.if-offset-count.true in
    back-along g.K.Ord.cmp g.met.K.Ord.total c.args.tree.now c.requires.tree c.args.id c.args.node.now c.requires.node c.args.offset c.requires.within (sym c.in_default.is ∙ c.child_id_opt.ensures) (omega arith) c.new-then-offset-count.result
    (address-is c.new-then-offset-count.result c.args.id (c.args.offset + 1) c.from-then-offset-count.result (omega arith) c.from-then-offset-count.ensures c.new-then-offset-count.ensures)

pub returns-in_default-parent : goal.returns-in_default-parent
returns-in_default-parent g c =
    back-last g.K.Ord.cmp g.met.K.Ord.total c.args.tree.now c.requires.tree c.args.id c.args.node.now c.requires.node c.args.offset c.requires.within (let n = c.item_count-count.ensures.value in let l = c.if-offset-count.false in omega arith) (sym c.parent.ensures.value ∙ c.in_default-parent.is)

pub node-requires : goal.node-requires
node-requires g c = (c.tell_fits.ensures, parent-used g.K.Ord.cmp g.met.K.Ord.total c.args.tree.now c.requires.tree c.args.id c.args.node.now c.requires.node c.in-Some-parent.parent (sym c.parent.ensures.value ∙ c.in-Some-parent.is))

pub unwrap-index-requires : goal.unwrap-index-requires
unwrap-index-requires g c = index-there g.K.Ord.cmp g.met.K.Ord.total c.args.tree.now c.requires.tree c.args.id c.args.node.now c.requires.node c.in-Some-parent.parent (sym c.parent.ensures.value ∙ c.in-Some-parent.is) c.node.result.now c.node.ensures.value c.child_index.result c.child_index.ensures.value

pub returns : goal.returns
returns g c =
    let low = subst (λ o. IfSome o (λ index. index < length (children_of (view_of c.node.result.now)))) c.unwrap-index.ensures c.child_index.ensures.within in
    let at = children-few (view_of c.node.result.now) c.unwrap-index.result low in
    let few = size-few g.K.Ord.cmp g.met.K.Ord.total c.args.tree.now c.requires.tree c.in-Some-parent.parent c.node.result.now c.node.ensures.value in
    back-up g.K.Ord.cmp g.met.K.Ord.total c.args.tree.now c.requires.tree c.args.id c.args.node.now c.requires.node c.args.offset c.requires.within (let n = c.item_count-count.ensures.value in let l = c.if-offset-count.false in omega arith) c.in-Some-parent.parent c.unwrap-index.result
    (child-there g.K.Ord.cmp g.met.K.Ord.total c.args.tree.now c.requires.tree c.args.id c.args.node.now c.requires.node c.in-Some-parent.parent (sym c.parent.ensures.value ∙ c.in-Some-parent.is) c.node.result.now c.node.ensures.value c.child_index.result c.child_index.ensures.value c.unwrap-index.result c.unwrap-index.ensures) c.new-2.result
    (address-is c.new-2.result c.in-Some-parent.parent c.unwrap-index.result c.from-2.result (omega arith) c.from-2.ensures c.new-2.ensures)

pub item_count-count-requires : goal.item_count-count-requires
item_count-count-requires g c = c.tell_fits.ensures

pub child_id_opt-requires : goal.child_id_opt-requires
child_id_opt-requires g c = c.tell_fits.ensures

pub parent-requires : goal.parent-requires
parent-requires g c = c.tell_fits.ensures

pub child_index-requires : goal.child_index-requires
child_index-requires g c = c.tell_fits.ensures
