use Rattle.std.proofs.Common.{◌≡◌, ◌≤◌, ◌∙◌, ◌++◌, ◌∷◌, [], None, refl, ap, arith, length-append}
use Rattle.std.proofs.lemmas.Result.{err_from_is_err_and}
use Rattle.btree_node.specs.Node.{view_of}
use Rattle.btree_view.specs.Edits.{pushed_right}
use Rattle.btree_view.specs.View.{items_of}
use Rattle.btree_view.specs.View.{leaf}
use Rattle.btree_image.specs.Reading.{item_at, leaf_with}
use Rattle.btree_image.proofs.Loop.{begins, goes_on, ends, is_done}
use Rattle.btree_image.proofs.reading.read_items.Goals as goal

pub empty-requires : goal.empty-requires
empty-requires g c = let fits = c.well_formed in omega arith

pub array_drop-node-requires-in_err-item-2 : goal.array_drop-node-requires-in_err-item-2
array_drop-node-requires-in_err-item-2 g c = let fits = c.well_formed in omega arith

pub push_right-requires : goal.push_right-requires
push_right-requires g c =
    let fits = c.well_formed in
    let was = c.loop.invariant.0 in
    (omega arith, rw was (omega arith, refl))

pub loop-init : goal.loop-init
loop-init g c =
    let made = c.empty.ensures in
    rw (made, c.requires.kept) (refl, refl, begins (λ left. item_at g.K.Spelled.read g.V.Spelled.read) c.args.count c.args.bytes.now)

pub loop-preserved : goal.loop-preserved
loop-preserved g c =
    let pushed = c.push_right.ensures.after in
    let was = c.loop.invariant.0 in
    let now : view_of c.push_right.new.self ≡ leaf c.args.parent (items_of (view_of c.loop.node) ++ c.in_ok-item.item ∷ []) = pushed ∙ ap (pushed_right c.in_ok-item.item None) was in
    rw now (
      refl,
      omega (arith, length-append (items_of (view_of c.loop.node)) (c.in_ok-item.item ∷ []), c.loop.invariant.1),
      goes_on (λ left. item_at g.K.Spelled.read g.V.Spelled.read) c.args.count c.args.bytes.now (items_of (view_of c.loop.node)) c.loop.counter c.loop.rest.now c.in_ok-item.item c.in_ok-item.after.now c.loop-test.true c.in_ok-item.ensures c.loop.invariant.2,
    )

pub returns-in_err-item : goal.returns-in_err-item
unfolding leaf_with
returns-in_err-item g c =
    let p = err_from_is_err_and c.from_residual.result c.from_residual.ensures.1 in
    let failed = ends (λ left. item_at g.K.Spelled.read g.V.Spelled.read) c.args.count c.args.bytes.now (items_of (view_of c.loop.node)) c.loop.counter c.loop.rest.now c.in_err-item.field-0.0 c.loop-test.true c.in_err-item.ensures c.loop.invariant.2 in
    rw (p.1, p.2, failed) refl

pub returns : goal.returns
unfolding leaf_with
returns g c =
    let ended : c.args.count ≤ c.loop.counter = omega arith in
    let read = is_done (λ left. item_at g.K.Spelled.read g.V.Spelled.read) c.args.count c.args.bytes.now (items_of (view_of c.loop.node)) c.loop.counter c.loop.rest.now ended c.loop.invariant.2 in
    rw (read, ← c.loop.invariant.0) refl
