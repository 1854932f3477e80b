use Rattle.btree_find.proofs.Common.{◌∙◌, ◌<◌, ◌-◌, arith, length, subst, sym, IfSome, view_of, children_of}
use Rattle.btree_find.proofs.ParentLemmas.{index-there, parent-used}
use Rattle.btree_find.proofs.PreviousLemmas.{before-item, before-next, before-none, before-smaller}
use Rattle.btree_find.proofs.WalkLemmas.{address-is, children-few}
use Rattle.btree_find.proofs.navigation.item_before.Goals as goal

pub loop-parent-init : goal.loop-parent-init
loop-parent-init g c = record { here = c.requires.node; leads = λ place i. i }

pub parent-requires : goal.parent-requires
parent-requires g c = c.tell_fits.ensures

pub returns-in_default : goal.returns-in_default
returns-in_default g c = before-none g.K.Ord.cmp g.met.K.Ord.total c.args.tree.now c.requires.tree c.args.start_id c.loop-parent.id c.loop-parent.node.now c.loop-parent.invariant (sym c.parent.ensures.value ∙ c.in_default.is)

pub node-node-requires : goal.node-node-requires
node-node-requires g c = (c.tell_fits.ensures, parent-used g.K.Ord.cmp g.met.K.Ord.total c.args.tree.now c.requires.tree c.loop-parent.id c.loop-parent.node.now c.loop-parent.invariant.here c.in-Some.parent (sym c.parent.ensures.value ∙ c.in-Some.is))

pub child_index-requires : goal.child_index-requires
child_index-requires g c = c.tell_fits.ensures

pub unwrap-index-requires : goal.unwrap-index-requires
unwrap-index-requires g c = index-there g.K.Ord.cmp g.met.K.Ord.total c.args.tree.now c.requires.tree c.loop-parent.id c.loop-parent.node.now c.loop-parent.invariant.here c.in-Some.parent (sym c.parent.ensures.value ∙ c.in-Some.is) c.node-node.result.now c.node-node.ensures.value c.child_index.result c.child_index.ensures.value

pub returns-then-index-gt0 : goal.returns-then-index-gt0
returns-then-index-gt0 g c =
    let l = c.if-index-gt0.true in
    let h = c.unwrap-index.type_inv in
    before-item g.K.Ord.cmp g.met.K.Ord.total c.args.tree.now c.requires.tree c.args.start_id c.loop-parent.id c.loop-parent.node.now c.loop-parent.invariant c.in-Some.parent (sym c.parent.ensures.value ∙ c.in-Some.is) c.node-node.result.now c.node-node.ensures.value c.child_index.result c.child_index.ensures.value c.unwrap-index.result c.unwrap-index.ensures (c.unwrap-index.result - 1) (omega arith)
    (children-few (view_of c.node-node.result.now) c.unwrap-index.result (subst (λ o. IfSome o (λ index. index < length (children_of (view_of c.node-node.result.now)))) c.unwrap-index.ensures c.child_index.ensures.within))
    c.new.result (address-is c.new.result c.in-Some.parent (c.unwrap-index.result - 1) c.from.result (omega arith) c.from.ensures c.new.ensures)

pub loop-parent-smaller : goal.loop-parent-smaller
loop-parent-smaller g c = before-smaller g.K.Ord.cmp g.met.K.Ord.total c.args.tree.now c.requires.tree c.args.start_id c.loop-parent.id c.loop-parent.node.now c.loop-parent.invariant c.in-Some.parent (sym c.parent.ensures.value ∙ c.in-Some.is) c.node-node.result.now c.node-node.ensures.value c.child_index.result c.child_index.ensures.value c.unwrap-index.result c.unwrap-index.ensures

pub loop-parent-preserved : goal.loop-parent-preserved
loop-parent-preserved g c = before-next g.K.Ord.cmp g.met.K.Ord.total c.args.tree.now c.requires.tree c.args.start_id c.loop-parent.id c.loop-parent.node.now c.loop-parent.invariant c.in-Some.parent (sym c.parent.ensures.value ∙ c.in-Some.is) c.node-node.result.now c.node-node.ensures.value c.child_index.result c.child_index.ensures.value c.unwrap-index.result c.unwrap-index.ensures (let l = c.if-index-gt0.false in omega arith)
