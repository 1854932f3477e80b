use Rattle.btree_walk.proofs.Common.{[], refl, arith, rules, ap, ◌∙◌, ◌∷◌, ◌++◌, ◌+◌, fits-leaf, rows_before}
use Rattle.btree_walk.proofs.BackLemmas.{behind}
use Rattle.btree_walk.proofs.WayLemmas.{taken-off, up-over, up-passed, up-steps}
use Rattle.btree_walk.proofs.backward.previous_above.Goals as goal

pub loop-ancestor-init : goal.loop-ancestor-init
loop-ancestor-init g c = record { up = record { rows = c.requires.above; list = refl }; fetched = c.requires.fetched }

pub push-requires : goal.push-requires
push-requires g c =
    let off = taken-off (behind c.args.tree.now) c.loop-ancestor.ancestors c.loop-ancestor.invariant.up.rows c.in-Some.ensures.answer c.in-Some.ensures.after in
    (omega arith, (up-steps (behind c.args.tree.now) c.loop-ancestor.invariant.up off _ _ (record { node = c.in-Some.ancestor.node; passed = c.in-Some.ancestor.passed + 1 }) c.in-Some-branch_before.ensures.last refl).room)

pub descend_last-kept-requires : goal.descend_last-kept-requires
descend_last-kept-requires g c =
    let off = taken-off (behind c.args.tree.now) c.loop-ancestor.ancestors c.loop-ancestor.invariant.up.rows c.in-Some.ensures.answer c.in-Some.ensures.after in
    let steps = up-steps (behind c.args.tree.now) c.loop-ancestor.invariant.up off _ _ _ c.in-Some-branch_before.ensures.last c.push.ensures in
    (omega arith, (omega arith, (search rules, (search fits-leaf, (steps.rows, (steps.under, c.loop-ancestor.invariant.fetched))))))

pub returns-in-Some-branch_before-clause-left : goal.returns-in-Some-branch_before-clause-left
returns-in-Some-branch_before-clause-left g c =
    let off = taken-off (behind c.args.tree.now) c.loop-ancestor.ancestors c.loop-ancestor.invariant.up.rows c.in-Some.ensures.answer c.in-Some.ensures.after in
    (up-steps (behind c.args.tree.now) c.loop-ancestor.invariant.up off _ _ _ c.in-Some-branch_before.ensures.last c.push.ensures).list
    ∙ rw (c.key.ensures, c.value.ensures) (ap (λ l. l ++ c.in-Some-branch_before.item.now ∷ []) c.descend_last-kept.ensures.left)

pub loop-ancestor-smaller : goal.loop-ancestor-smaller
loop-ancestor-smaller g c = (taken-off (behind c.args.tree.now) c.loop-ancestor.ancestors c.loop-ancestor.invariant.up.rows c.in-Some.ensures.answer c.in-Some.ensures.after).fewer

pub loop-ancestor-preserved : goal.loop-ancestor-preserved
loop-ancestor-preserved g c =
    let off = taken-off (behind c.args.tree.now) c.loop-ancestor.ancestors c.loop-ancestor.invariant.up.rows c.in-Some.ensures.answer c.in-Some.ensures.after in
    record { up = up-passed (behind c.args.tree.now) c.loop-ancestor.invariant.up off c.in_default-branch_before.ensures.last; fetched = c.loop-ancestor.invariant.fetched }

pub returns-clause-above : goal.returns-clause-above
returns-clause-above g c = rw (up-over (behind c.args.tree.now) c.loop-ancestor.invariant.up c.in_default.ensures.answer c.in_default.ensures.after).0 tt

pub returns-clause-left : goal.returns-clause-left
returns-clause-left g c =
    let over = up-over (behind c.args.tree.now) c.loop-ancestor.invariant.up c.in_default.ensures.answer c.in_default.ensures.after in
    (over.1, ap rows_before over.0)

pub fetch_before-requires : goal.fetch_before-requires
fetch_before-requires g c = (omega arith, (omega arith, (search rules, (c.descend_last-kept.ensures.above, c.descend_last-kept.ensures.fetched))))

pub branch_before-requires : goal.branch_before-requires
branch_before-requires g c = c.tell_fits.ensures

pub overflow_add-passed : goal.overflow_add-passed
overflow_add-passed g c = omega (arith, c.in-Some-branch_before.ensures.fits)

pub returns-in-Some-branch_before-clause-above : goal.returns-in-Some-branch_before-clause-above
returns-in-Some-branch_before-clause-above g c = c.descend_last-kept.ensures.above

pub returns-in-Some-branch_before-clause-fetched : goal.returns-in-Some-branch_before-clause-fetched
returns-in-Some-branch_before-clause-fetched g c = c.fetch_before.ensures

pub returns-in-Some-branch_before-clause-kept : goal.returns-in-Some-branch_before-clause-kept
returns-in-Some-branch_before-clause-kept g c = c.descend_last-kept.ensures.kept

pub returns-clause-fetched : goal.returns-clause-fetched
returns-clause-fetched g c = c.loop-ancestor.invariant.fetched

pub returns-clause-kept : goal.returns-clause-kept
returns-clause-kept g c = tt
