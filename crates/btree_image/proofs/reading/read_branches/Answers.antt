use Rattle.std.proofs.Common.{◌≡◌, ◌≤◌, ◌∙◌, ◌++◌, ◌∷◌, [], Some, refl, ap, arith, length-append}
use Rattle.std.proofs.lemmas.List.{length-map}
use Rattle.std.proofs.lemmas.Result.{err_from_is_err_and}
use Rattle.btree_node.specs.Node.{view_of}
use Rattle.btree_view.specs.Edits.{pushed_right}
use Rattle.btree_view.specs.View.{branches_of}
use Rattle.btree_view.specs.View.{internal}
use Rattle.btree_image.specs.Reading.{branch_at, internal_with}
use Rattle.btree_image.proofs.Loop.{begins, begins_one, goes_on, ends, is_done}
use Rattle.btree_image.proofs.reading.read_branches.Goals as goal

pub push_right-requires : goal.push_right-requires
push_right-requires g c =
    let fits = c.well_formed in
    let was = c.loop.invariant.0 in
    let long = length-map (branches_of (view_of c.loop.node)) (λ b. b.0) in
    (omega arith, rw was (omega (arith, long, c.loop.invariant.1), refl))

pub loop-init : goal.loop-init
loop-init g c =
    let made = c.binary-node.ensures in
    rw (made, c.requires.kept) (
      refl,
      refl,
      begins_one (λ left. branch_at g.K.Spelled.read g.V.Spelled.read) c.args.count c.args.bytes.now (c.in_ok-item.item, c.in_ok-item.child) c.in_ok-item.rest.now c.requires.some c.in_ok-item.ensures,
    )

pub loop-preserved : goal.loop-preserved
loop-preserved g c =
    let pushed = c.push_right.ensures.after in
    let was = c.loop.invariant.0 in
    let now : view_of c.push_right.new.self ≡ internal c.args.parent c.args.first (branches_of (view_of c.loop.node) ++ (c.in_ok-item-2.item, c.in_ok-item-2.child) ∷ []) = pushed ∙ ap (pushed_right c.in_ok-item-2.item (Some c.in_ok-item-2.child)) was in
    rw now (
      refl,
      omega (arith, length-append (branches_of (view_of c.loop.node)) ((c.in_ok-item-2.item, c.in_ok-item-2.child) ∷ []), c.loop.invariant.1),
      goes_on (λ left. branch_at g.K.Spelled.read g.V.Spelled.read) c.args.count c.args.bytes.now (branches_of (view_of c.loop.node)) c.loop.counter c.loop.rest.now (c.in_ok-item-2.item, c.in_ok-item-2.child) c.in_ok-item-2.after.now c.loop-test.true c.in_ok-item-2.ensures c.loop.invariant.2,
    )

pub returns-in_err-item-2 : goal.returns-in_err-item-2
unfolding internal_with
returns-in_err-item-2 g c =
    let p = err_from_is_err_and c.from_residual-in_err-item-2.result c.from_residual-in_err-item-2.ensures.1 in
    let failed = ends (λ left. branch_at g.K.Spelled.read g.V.Spelled.read) c.args.count c.args.bytes.now (branches_of (view_of c.loop.node)) c.loop.counter c.loop.rest.now c.in_err-item-2.field-0.0 c.loop-test.true c.in_err-item-2.ensures c.loop.invariant.2 in
    rw (p.1, p.2, failed) refl

pub returns-in_err-item : goal.returns-in_err-item
unfolding internal_with
returns-in_err-item g c =
    let p = err_from_is_err_and c.from_residual.result c.from_residual.ensures.1 in
    let failed = ends (λ left. branch_at g.K.Spelled.read g.V.Spelled.read) c.args.count c.args.bytes.now [] 0 c.args.bytes.now c.in_err-item.field-0.0 c.requires.some c.in_err-item.ensures (begins (λ left. branch_at g.K.Spelled.read g.V.Spelled.read) c.args.count c.args.bytes.now) in
    rw (p.1, p.2, failed) refl

pub returns : goal.returns
unfolding internal_with
returns g c =
    let ended : c.args.count ≤ c.loop.counter = omega arith in
    let read = is_done (λ left. branch_at g.K.Spelled.read g.V.Spelled.read) c.args.count c.args.bytes.now (branches_of (view_of c.loop.node)) c.loop.counter c.loop.rest.now ended c.loop.invariant.2 in
    rw (read, ← c.loop.invariant.0) refl
