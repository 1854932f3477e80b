use Rattle.btree_find.proofs.Common.{◌∙◌, ◌<◌, arith, length, subst, sym, IfSome, children_of, view_of}
use Rattle.btree_find.proofs.ParentLemmas.{index-there, parent-used}
use Rattle.btree_find.proofs.WalkLemmas.{address-is, children-few, climb-item, climb-next, climb-none, climb-smaller}
use Rattle.btree_find.proofs.navigation.item_from.Goals as goal

pub loop-offset-init : goal.loop-offset-init
loop-offset-init g c = record { here = c.requires.node; within = c.requires.within; leads = λ place i. i }

pub item_count-requires : goal.item_count-requires
item_count-requires g c = c.tell_fits.ensures

pub returns-then-offset-item_count : goal.returns-then-offset-item_count
returns-then-offset-item_count g c =
    let n = c.item_count.ensures.value in
    let f = c.item_count.ensures.fits in
    let l = c.if-offset-item_count.true in
    climb-item g.K.Ord.cmp g.met.K.Ord.total c.args.tree.now c.requires.tree c.args.start_id c.args.start_offset c.loop-offset.id c.loop-offset.offset c.loop-offset.node.now c.loop-offset.invariant (omega arith) c.new.result
    (address-is c.new.result c.loop-offset.id c.loop-offset.offset c.from.result (omega arith) c.from.ensures c.new.ensures)

pub parent-requires : goal.parent-requires
parent-requires g c = c.tell_fits.ensures

pub returns-in_default : goal.returns-in_default
returns-in_default g c = climb-none g.K.Ord.cmp g.met.K.Ord.total c.args.tree.now c.requires.tree c.args.start_id c.args.start_offset c.loop-offset.id c.loop-offset.offset c.loop-offset.node.now c.loop-offset.invariant (let n = c.item_count.ensures.value in let l = c.if-offset-item_count.false in omega arith) (sym c.parent.ensures.value ∙ c.in_default.is)

pub node-node-requires : goal.node-node-requires
node-node-requires g c = (c.tell_fits.ensures, parent-used g.K.Ord.cmp g.met.K.Ord.total c.args.tree.now c.requires.tree c.loop-offset.id c.loop-offset.node.now c.loop-offset.invariant.here c.in-Some.parent (sym c.parent.ensures.value ∙ c.in-Some.is))

pub child_index-requires : goal.child_index-requires
child_index-requires g c = c.tell_fits.ensures

pub unwrap-offset-requires : goal.unwrap-offset-requires
unwrap-offset-requires g c = index-there g.K.Ord.cmp g.met.K.Ord.total c.args.tree.now c.requires.tree c.loop-offset.id c.loop-offset.node.now c.loop-offset.invariant.here c.in-Some.parent (sym c.parent.ensures.value ∙ c.in-Some.is) c.node-node.result.now c.node-node.ensures.value c.child_index.result c.child_index.ensures.value

pub loop-offset-smaller : goal.loop-offset-smaller
loop-offset-smaller g c = climb-smaller g.K.Ord.cmp g.met.K.Ord.total c.args.tree.now c.requires.tree c.args.start_id c.args.start_offset c.loop-offset.id c.loop-offset.offset c.loop-offset.node.now c.loop-offset.invariant (let n = c.item_count.ensures.value in let l = c.if-offset-item_count.false in omega arith) c.in-Some.parent (sym c.parent.ensures.value ∙ c.in-Some.is) c.node-node.result.now c.node-node.ensures.value c.child_index.result c.child_index.ensures.value c.unwrap-offset.result c.unwrap-offset.ensures

pub loop-offset-preserved : goal.loop-offset-preserved
loop-offset-preserved g c = climb-next g.K.Ord.cmp g.met.K.Ord.total c.args.tree.now c.requires.tree c.args.start_id c.args.start_offset c.loop-offset.id c.loop-offset.offset c.loop-offset.node.now c.loop-offset.invariant (let n = c.item_count.ensures.value in let l = c.if-offset-item_count.false in omega arith) c.in-Some.parent (sym c.parent.ensures.value ∙ c.in-Some.is) c.node-node.result.now c.node-node.ensures.value c.child_index.result c.child_index.ensures.value c.unwrap-offset.result c.unwrap-offset.ensures (children-few (view_of c.node-node.result.now) c.unwrap-offset.result (subst (λ o. IfSome o (λ index. index < length (children_of (view_of c.node-node.result.now)))) c.unwrap-offset.ensures c.child_index.ensures.within))
