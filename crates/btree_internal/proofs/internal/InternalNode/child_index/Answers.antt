use Rattle.btree_internal.proofs.Common.{◌∙◌, arith, rules, ◌==◌, internal_view, children_of, common_steps}
use Rattle.btree_internal.proofs.LookUpLemmas.{eq-true, eq-false, position-from_Some, position_from-here, position_from-next, position_from-end}
use Rattle.btree_internal.proofs.internal.InternalNode.child_index.Goals as goal

pub returns-then-child_id-id-clause-value : goal.returns-then-child_id-id-clause-value
returns-then-child_id-id-clause-value g c =
    position-from_Some (λ child. child == c.args.id) (children_of (internal_view c.args.self.now)) _
    (c.loop-index.invariant ∙ position_from-here (λ child. child == c.args.id) c.loop-index.index c.loop-index.index (children_of (internal_view c.args.self.now)) c.child_id.result c.child_id.ensures (eq-true _ _ c.if-child_id-id.true))

pub loop-index-preserved : goal.loop-index-preserved
loop-index-preserved g c =
    c.loop-index.invariant
    ∙ position_from-next (λ child. child == c.args.id) c.loop-index.index c.loop-index.index (children_of (internal_view c.args.self.now)) c.child_id.result c.child_id.ensures (eq-false _ _ c.if-child_id-id.false)

pub returns-clause-value : goal.returns-clause-value
returns-clause-value g c =
    let ended = c.loop-index-test.false in
    let count = c.child_count-index-end.ensures.value in
    position-from_Some (λ child. child == c.args.id) (children_of (internal_view c.args.self.now)) _
    (c.loop-index.invariant ∙ position_from-end (λ child. child == c.args.id) c.loop-index.index c.loop-index.index (children_of (internal_view c.args.self.now)) (omega (arith, ended, count)))

pub child_count-index-end-requires : goal.child_count-index-end-requires
child_count-index-end-requires g c = grind (arith, common_steps) steps 300000

pub loop-index-init : goal.loop-index-init
loop-index-init g c = search rules steps 200000

pub child_id-requires : goal.child_id-requires
child_id-requires g c = grind (arith, common_steps) steps 2000000

pub returns-then-child_id-id-clause-within : goal.returns-then-child_id-id-clause-within
returns-then-child_id-id-clause-within g c = grind (arith, common_steps) steps 2000000

pub loop-index-smaller : goal.loop-index-smaller
loop-index-smaller g c = search rules steps 200000

pub returns-clause-within : goal.returns-clause-within
returns-clause-within g c = search rules steps 200000
