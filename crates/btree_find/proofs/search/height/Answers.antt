use Rattle.btree_find.proofs.Common.{arith, subst, sym, ◌∙◌}
use Rattle.btree_laws.specs.TreeState.{HasLevelsUnder}
use Rattle.btree_find.proofs.HeightLemmas.{descending-used, descending-next, descending-end, levels-start}
use Rattle.btree_find.proofs.search.height.Goals as goal

pub loop-child-init : goal.loop-child-init
loop-child-init g c = levels-start g.K.Ord.cmp c.args.tree.now c.in-Some.root (sym c.root_id.ensures ∙ c.in-Some.is) (let w = c.well_formed in omega arith) c.requires

pub node-requires : goal.node-requires
node-requires g c = (c.tell_fits.ensures, descending-used c.args.tree.now.nodes c.in-Some.root _ c.loop-child.id c.loop-child.levels c.loop-child.invariant)

pub loop-child-preserved : goal.loop-child-preserved
loop-child-preserved g c = (descending-next c.args.tree.now.nodes c.in-Some.root _ c.loop-child.id c.loop-child.levels c.loop-child.invariant c.node.result.now c.node.ensures.value c.in-Some-child_id_opt.child (sym c.in-Some-child_id_opt.ensures)).0

pub returns-in-None-clause-levels : goal.returns-in-None-clause-levels
returns-in-None-clause-levels g c =
    let e = descending-end c.args.tree.now.nodes c.in-Some.root _ c.loop-child.id c.loop-child.levels c.loop-child.invariant c.node.result.now c.node.ensures.value (sym c.in-None.ensures) in
    subst (λ t. HasLevelsUnder c.args.tree.now t c.loop-child.levels) (sym (sym c.root_id.ensures ∙ c.in-Some.is)) (e.height, e.represents, e.counted)

pub child_id_opt-requires : goal.child_id_opt-requires
child_id_opt-requires g c = c.tell_fits.ensures

pub returns-in-None-clause-few : goal.returns-in-None-clause-few
returns-in-None-clause-few g c =
    let low = c.loop-child.invariant.low in
    let counted = c.loop-child.invariant.counted in
    omega arith

pub returns-in-None-clause-dense : goal.returns-in-None-clause-dense
returns-in-None-clause-dense g c = λ some. (descending-end c.args.tree.now.nodes c.in-Some.root _ c.loop-child.id c.loop-child.levels c.loop-child.invariant c.node.result.now c.node.ensures.value (sym c.in-None.ensures)).dense

pub overflow_add-levels : goal.overflow_add-levels
overflow_add-levels g c =
    let low = c.loop-child.invariant.low in
    let counted = c.loop-child.invariant.counted in
    omega arith

pub loop-child-smaller : goal.loop-child-smaller
loop-child-smaller g c =
    let low = c.loop-child.invariant.low in
    let counted = c.loop-child.invariant.counted in
    omega arith
