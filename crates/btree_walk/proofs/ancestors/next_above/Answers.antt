use Rattle.btree_walk.proofs.Common.{refl, arith, ap, ◌∙◌, ◌∷◌, ◌+◌, rules, rows_of}
use Rattle.std.proofs.lemmas.Grind.{common_steps}
use Rattle.btree_walk.proofs.WalkLemmas.{ahead}
use Rattle.btree_walk.proofs.WayLemmas.{taken-off, up-over, up-passed, up-steps}
use Rattle.btree_walk.proofs.ancestors.next_above.Goals as goal

pub loop-ancestor-init : goal.loop-ancestor-init
loop-ancestor-init g c = record { rows = c.requires.above; list = refl }

pub push-requires : goal.push-requires
push-requires g c =
    let off = taken-off (ahead c.args.tree.now) c.loop-ancestor.ancestors c.loop-ancestor.invariant.rows c.in-Some.ensures.answer c.in-Some.ensures.after in
    (omega arith, (up-steps (ahead c.args.tree.now) c.loop-ancestor.invariant off _ _ (record { node = c.in-Some.ancestor.node; passed = c.in-Some.ancestor.passed + 1 }) c.in-Some-branch_at_index.ensures.first refl).room)

pub descend-requires : goal.descend-requires
descend-requires g c =
    let off = taken-off (ahead c.args.tree.now) c.loop-ancestor.ancestors c.loop-ancestor.invariant.rows c.in-Some.ensures.answer c.in-Some.ensures.after in
    let steps = up-steps (ahead c.args.tree.now) c.loop-ancestor.invariant off _ _ _ c.in-Some-branch_at_index.ensures.first c.push.ensures in
    (omega arith, (search, (steps.rows, steps.under)))

pub returns-in-Some-branch_at_index-clause-left : goal.returns-in-Some-branch_at_index-clause-left
returns-in-Some-branch_at_index-clause-left g c =
    let off = taken-off (ahead c.args.tree.now) c.loop-ancestor.ancestors c.loop-ancestor.invariant.rows c.in-Some.ensures.answer c.in-Some.ensures.after in
    (up-steps (ahead c.args.tree.now) c.loop-ancestor.invariant off _ _ _ c.in-Some-branch_at_index.ensures.first c.push.ensures).list
    ∙ rw (c.key.ensures, c.value.ensures) (ap (λ l. c.in-Some-branch_at_index.item.now ∷ l) c.descend.ensures.left)

pub loop-ancestor-smaller : goal.loop-ancestor-smaller
loop-ancestor-smaller g c = (taken-off (ahead c.args.tree.now) c.loop-ancestor.ancestors c.loop-ancestor.invariant.rows c.in-Some.ensures.answer c.in-Some.ensures.after).fewer

pub loop-ancestor-preserved : goal.loop-ancestor-preserved
loop-ancestor-preserved g c =
    let off = taken-off (ahead c.args.tree.now) c.loop-ancestor.ancestors c.loop-ancestor.invariant.rows c.in-Some.ensures.answer c.in-Some.ensures.after in
    up-passed (ahead c.args.tree.now) c.loop-ancestor.invariant off c.in_default-branch_at_index.ensures.first

pub returns-clause-above : goal.returns-clause-above
returns-clause-above g c = rw (up-over (ahead c.args.tree.now) c.loop-ancestor.invariant c.in_default.ensures.answer c.in_default.ensures.after).0 tt

pub returns-clause-left : goal.returns-clause-left
returns-clause-left g c =
    let over = up-over (ahead c.args.tree.now) c.loop-ancestor.invariant c.in_default.ensures.answer c.in_default.ensures.after in
    (over.1, ap rows_of over.0)

pub tell_fits-requires : goal.tell_fits-requires
tell_fits-requires g c κs = search rules steps 200000

pub pop-requires : goal.pop-requires
pop-requires g c = search rules steps 200000

pub overflow_add-passed : goal.overflow_add-passed
overflow_add-passed g c = grind (arith, common_steps) steps 300000

pub key-requires : goal.key-requires
key-requires g c κs = search rules steps 200000

pub value-requires : goal.value-requires
value-requires g c κs = search rules steps 200000

pub returns-in-Some-branch_at_index-clause-above :
    goal.returns-in-Some-branch_at_index-clause-above
returns-in-Some-branch_at_index-clause-above g c = search rules steps 200000
