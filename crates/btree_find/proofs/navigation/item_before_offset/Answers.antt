use Rattle.btree_find.proofs.Common.{◌-◌, ◌∙◌, arith, sym}
use Rattle.btree_find.proofs.PreviousLemmas.{before-along, before-below, before-start, below-used, few-last, some-last}
use Rattle.btree_find.proofs.WalkLemmas.{address-is}
use Rattle.btree_find.proofs.navigation.item_before_offset.Goals as goal

pub rightmost_leaf-leaf-requires-clause-used : goal.rightmost_leaf-leaf-requires-clause-used
rightmost_leaf-leaf-requires-clause-used g c = below-used g.K.Ord.cmp g.met.K.Ord.total c.args.tree.now c.requires.tree c.args.id c.args.offset c.args.node.now c.requires.node c.in-Some.child c.in-Some.ensures

pub overflow_sub-count : goal.overflow_sub-count
overflow_sub-count g c = let l = some-last g.K.Ord.cmp g.met.K.Ord.total c.args.tree.now c.requires.tree c.in-Some.child c.rightmost_leaf-leaf.result c.rightmost_leaf-leaf.ensures in omega arith

pub returns-in-Some : goal.returns-in-Some
returns-in-Some g c =
    let l = some-last g.K.Ord.cmp g.met.K.Ord.total c.args.tree.now c.requires.tree c.in-Some.child c.rightmost_leaf-leaf.result c.rightmost_leaf-leaf.ensures in
    let h = few-last g.K.Ord.cmp g.met.K.Ord.total c.args.tree.now c.requires.tree c.in-Some.child c.rightmost_leaf-leaf.result c.rightmost_leaf-leaf.ensures in
    before-below g.K.Ord.cmp g.met.K.Ord.total c.args.tree.now c.requires.tree c.args.id c.args.offset c.args.node.now c.requires.node c.in-Some.child c.in-Some.ensures c.rightmost_leaf-leaf.result c.rightmost_leaf-leaf.ensures c.new.result (c.rightmost_leaf-leaf.result.1 - 1) (omega arith)
    (address-is c.new.result c.rightmost_leaf-leaf.result.0 (c.rightmost_leaf-leaf.result.1 - 1) c.from.result (omega arith) c.from.ensures c.new.ensures)

pub returns-then-offset-eq0 : goal.returns-then-offset-eq0
returns-then-offset-eq0 g c =
    before-start g.K.Ord.cmp g.met.K.Ord.total c.args.tree.now c.requires.tree c.args.id c.args.offset c.args.node.now c.requires.node c.requires.within (sym c.in_default.is ∙ c.child_id_opt.ensures) (let z = c.if-offset-eq0.true in omega arith) c.item_before.result c.item_before.ensures

pub returns : goal.returns
returns g c =
    let z = c.if-offset-eq0.false in
    let f = c.ranges.offset.fits in
    before-along g.K.Ord.cmp g.met.K.Ord.total c.args.tree.now c.requires.tree c.args.id c.args.offset c.args.node.now c.requires.node c.requires.within (sym c.in_default.is ∙ c.child_id_opt.ensures) (c.args.offset - 1) (omega arith) c.new-2.result
    (address-is c.new-2.result c.args.id (c.args.offset - 1) c.from-2.result (omega arith) c.from-2.ensures c.new-2.ensures)

pub child_id_opt-requires : goal.child_id_opt-requires
child_id_opt-requires g c = c.tell_fits.ensures
