use Rattle.btree_walk.proofs.Common.{◌≡◌, ◌∙◌, ◌-◌, suc, ap, arith, refl, sym, ascends, rises, bound_key, branch_now, pair_now, remaining_in_leaf}
use Rattle.std.specs.FinMap as map
use Rattle.btree_walk.specs.Near.{child_in, list_below}
use Rattle.btree_walk.specs.Rows.{remaining_of}
use Rattle.btree_walk.proofs.NearLemmas.{map-or}
use Rattle.btree_walk.proofs.NearRowLemmas.{climb-end, climb-on, climb-start, climb-stop, leaf-ends, leaf-on, near-ends, near-rises}
use Rattle.btree_walk.proofs.RowLemmas.{get-within}
use Rattle.btree_walk.proofs.WalkLemmas.{left_over}
use Rattle.btree_walk.proofs.near.last_within.Goals as goal

pub returns-then-stops : goal.returns-then-stops
returns-then-stops g c =
    let cut = rw c.if-stops.true at c.last_of_leaf-stops.ensures in
    leaf-ends g.met.K.Ord.total (bound_key c.args.end) c.args.tree.now (remaining_of c.args.tree.now c.args.leaf c.args.passed c.args.ancestors.now)
    (remaining_in_leaf c.args.leaf c.args.passed) (left_over c.args.tree.now.nodes (map.len c.args.tree.now.nodes) c.args.ancestors.now) refl (pair_now c.last_of_leaf-stops.result.0)
    (rises g.K.Ord.cmp (remaining_of c.args.tree.now c.args.leaf c.args.passed c.args.ancestors.now) c.requires.rises) cut

pub loop-level-init : goal.loop-level-init
loop-level-init g c =
    let cut = rw c.if-stops.false at c.last_of_leaf-stops.ensures in
    rw c.len-level.ensures
    (climb-start g.met.K.Ord.total (bound_key c.args.end) c.args.tree.now (remaining_of c.args.tree.now c.args.leaf c.args.passed c.args.ancestors.now) c.args.ancestors.now (pair_now c.last_of_leaf-stops.result.0) c.requires.above
    (leaf-on g.met.K.Ord.total (bound_key c.args.end) c.args.tree.now (remaining_of c.args.tree.now c.args.leaf c.args.passed c.args.ancestors.now)
    (remaining_in_leaf c.args.leaf c.args.passed) (left_over c.args.tree.now.nodes (map.len c.args.tree.now.nodes) c.args.ancestors.now) refl (pair_now c.last_of_leaf-stops.result.0) cut))

pub last_of_row-stops-requires : goal.last_of_row-stops-requires
last_of_row-stops-requires g c = c.tell_fits.ensures

pub last_below-requires-clause-under : goal.last_below-requires-clause-under
last_below-requires-clause-under g c =
    let one : suc (c.loop-level.level - 1) ≡ c.loop-level.level = omega (arith, c.loop-level-test.true) in
    let cut = rw c.if-stops-2.true at c.last_of_row-stops.ensures in
    let climbing = rw (← one) at c.loop-level.invariant in
    let near = climb-stop g.met.K.Ord.total (bound_key c.args.end) c.args.tree.now (remaining_of c.args.tree.now c.args.leaf c.args.passed c.args.ancestors.now) c.args.ancestors.now (pair_now c.last_of_leaf-stops.result.0) (rises g.K.Ord.cmp (remaining_of c.args.tree.now c.args.leaf c.args.passed c.args.ancestors.now) c.requires.rises) (c.loop-level.level - 1) (branch_now c.loop-level.branch)
    climbing c.in-Some.ancestor.now (sym c.in-Some.ensures) (branch_now c.last_of_row-stops.result.0) cut (branch_now c.or-branch.result)
    (ap branch_now c.or-branch.ensures ∙ map-or (λ b. ((b.0.0.now, b.0.1.now), b.1)) c.last_of_row-stops.result.0 c.loop-level.branch) in
    near.under

pub last_below-requires-clause-rises : goal.last_below-requires-clause-rises
last_below-requires-clause-rises g c =
    let one : suc (c.loop-level.level - 1) ≡ c.loop-level.level = omega (arith, c.loop-level-test.true) in
    let cut = rw c.if-stops-2.true at c.last_of_row-stops.ensures in
    let climbing = rw (← one) at c.loop-level.invariant in
    let near = climb-stop g.met.K.Ord.total (bound_key c.args.end) c.args.tree.now (remaining_of c.args.tree.now c.args.leaf c.args.passed c.args.ancestors.now) c.args.ancestors.now (pair_now c.last_of_leaf-stops.result.0) (rises g.K.Ord.cmp (remaining_of c.args.tree.now c.args.leaf c.args.passed c.args.ancestors.now) c.requires.rises) (c.loop-level.level - 1) (branch_now c.loop-level.branch)
    climbing c.in-Some.ancestor.now (sym c.in-Some.ensures) (branch_now c.last_of_row-stops.result.0) cut (branch_now c.or-branch.result)
    (ap branch_now c.or-branch.ensures ∙ map-or (λ b. ((b.0.0.now, b.0.1.now), b.1)) c.last_of_row-stops.result.0 c.loop-level.branch) in
    ascends g.K.Ord.cmp (list_below c.args.tree.now (child_in (branch_now c.or-branch.result))) (near-rises g.met.K.Ord.total (bound_key c.args.end) c.args.tree.now (remaining_of c.args.tree.now c.args.leaf c.args.passed c.args.ancestors.now) (rises g.K.Ord.cmp (remaining_of c.args.tree.now c.args.leaf c.args.passed c.args.ancestors.now) c.requires.rises) (pair_now c.last_of_leaf-stops.result.0) (branch_now c.or-branch.result) near)

pub returns-then-stops-2 : goal.returns-then-stops-2
returns-then-stops-2 g c =
    let one : suc (c.loop-level.level - 1) ≡ c.loop-level.level = omega (arith, c.loop-level-test.true) in
    let cut = rw c.if-stops-2.true at c.last_of_row-stops.ensures in
    let climbing = rw (← one) at c.loop-level.invariant in
    let near = climb-stop g.met.K.Ord.total (bound_key c.args.end) c.args.tree.now (remaining_of c.args.tree.now c.args.leaf c.args.passed c.args.ancestors.now) c.args.ancestors.now (pair_now c.last_of_leaf-stops.result.0) (rises g.K.Ord.cmp (remaining_of c.args.tree.now c.args.leaf c.args.passed c.args.ancestors.now) c.requires.rises) (c.loop-level.level - 1) (branch_now c.loop-level.branch)
    climbing c.in-Some.ancestor.now (sym c.in-Some.ensures) (branch_now c.last_of_row-stops.result.0) cut (branch_now c.or-branch.result)
    (ap branch_now c.or-branch.ensures ∙ map-or (λ b. ((b.0.0.now, b.0.1.now), b.1)) c.last_of_row-stops.result.0 c.loop-level.branch) in
    near-ends g.met.K.Ord.total (bound_key c.args.end) c.args.tree.now (remaining_of c.args.tree.now c.args.leaf c.args.passed c.args.ancestors.now) (rises g.K.Ord.cmp (remaining_of c.args.tree.now c.args.leaf c.args.passed c.args.ancestors.now) c.requires.rises) (pair_now c.last_of_leaf-stops.result.0) (branch_now c.or-branch.result) near (pair_now c.last_below.result) c.last_below.ensures

pub loop-level-preserved-else-stops-2 : goal.loop-level-preserved-else-stops-2
loop-level-preserved-else-stops-2 g c =
    let one : suc (c.loop-level.level - 1) ≡ c.loop-level.level = omega (arith, c.loop-level-test.true) in
    let cut = rw c.if-stops-2.false at c.last_of_row-stops.ensures in
    let climbing = rw (← one) at c.loop-level.invariant in
    climb-on g.met.K.Ord.total (bound_key c.args.end) c.args.tree.now (remaining_of c.args.tree.now c.args.leaf c.args.passed c.args.ancestors.now) c.args.ancestors.now (pair_now c.last_of_leaf-stops.result.0) (rises g.K.Ord.cmp (remaining_of c.args.tree.now c.args.leaf c.args.passed c.args.ancestors.now) c.requires.rises) (c.loop-level.level - 1) (branch_now c.loop-level.branch)
    climbing c.in-Some.ancestor.now (sym c.in-Some.ensures) (branch_now c.last_of_row-stops.result.0) cut (branch_now c.or-branch.result)
    (ap branch_now c.or-branch.ensures ∙ map-or (λ b. ((b.0.0.now, b.0.1.now), b.1)) c.last_of_row-stops.result.0 c.loop-level.branch)

pub loop-level-preserved : goal.loop-level-preserved
loop-level-preserved g c =
    let l = c.loop-level.invariant.low in
    absurd (get-within c.args.ancestors.now (c.loop-level.level - 1) (sym c.in_default.ensures) (omega (arith, c.loop-level-test.true)))

pub last_below-requires-2-clause-rises : goal.last_below-requires-2-clause-rises
last_below-requires-2-clause-rises g c =
    let none : c.loop-level.level ≡ 0 = omega (arith, c.loop-level-test.false) in
    let climbing = rw none at c.loop-level.invariant in
    ascends g.K.Ord.cmp (list_below c.args.tree.now (child_in (branch_now c.loop-level.branch)))
    (near-rises g.met.K.Ord.total (bound_key c.args.end) c.args.tree.now (remaining_of c.args.tree.now c.args.leaf c.args.passed c.args.ancestors.now) (rises g.K.Ord.cmp (remaining_of c.args.tree.now c.args.leaf c.args.passed c.args.ancestors.now) c.requires.rises) (pair_now c.last_of_leaf-stops.result.0) (branch_now c.loop-level.branch)
    (climb-end g.met.K.Ord.total (bound_key c.args.end) c.args.tree.now (remaining_of c.args.tree.now c.args.leaf c.args.passed c.args.ancestors.now) c.args.ancestors.now (pair_now c.last_of_leaf-stops.result.0) (branch_now c.loop-level.branch) climbing))

pub returns : goal.returns
returns g c =
    let none : c.loop-level.level ≡ 0 = omega (arith, c.loop-level-test.false) in
    let climbing = rw none at c.loop-level.invariant in
    near-ends g.met.K.Ord.total (bound_key c.args.end) c.args.tree.now (remaining_of c.args.tree.now c.args.leaf c.args.passed c.args.ancestors.now) (rises g.K.Ord.cmp (remaining_of c.args.tree.now c.args.leaf c.args.passed c.args.ancestors.now) c.requires.rises) (pair_now c.last_of_leaf-stops.result.0) (branch_now c.loop-level.branch)
    (climb-end g.met.K.Ord.total (bound_key c.args.end) c.args.tree.now (remaining_of c.args.tree.now c.args.leaf c.args.passed c.args.ancestors.now) c.args.ancestors.now (pair_now c.last_of_leaf-stops.result.0) (branch_now c.loop-level.branch) climbing) (pair_now c.last_below-2.result) c.last_below-2.ensures
