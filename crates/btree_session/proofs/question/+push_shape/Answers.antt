use Rattle.btree_session.proofs.Common.{ap, ◌∙◌, ◌++◌, ◌∷◌, ◌-◌, [], arith, append_assoc, refl, views, shape_under}
use Rattle.btree_session.proofs.Printing.{to_print, next_piece, at_error, at_end, not_at_end, on_err, Grows-same, Grows-by, branches_text, internal_open, key_put, child_put}
use Rattle.btree_session.proofs.Room.{OnErr-map, lacks_short, lacks_first, first_child_text}
use Rattle.btree_session.proofs.question.+push_shape.Goals as goal

pub returns-in_err-push_shape-clause-kept : goal.returns-in_err-push_shape-clause-kept
returns-in_err-push_shape-clause-kept g t c = on_err _ (Grows-by _ _ _ c.in_err-push_shape.ensures.kept.0 (40 ∷ [], c.in_ok-push_text.ensures.put) c.in_err-push_shape.ensures.kept.1)

pub loop-branch-init : goal.loop-branch-init
loop-branch-init g t c = record {
  grown = omega arith;
  printed = child_put (views c.args.map.now.nodes) (c.args.levels - 1) _ _ (41 ∷ []) _ _ c.first_child_id.result c.into_iter-branch-iterator.result
      (internal_open c.args.map.now.nodes c.args.levels c.args.id c.in-Internal.node c.branches.result.now c.into_iter-branch-iterator.result c.first_child_id.result _ _ (omega arith)
      (rw c.in-Internal.is at c.node.ensures) c.branches.ensures (c.into_iter-branch-iterator.ensures.into_iter_gives ∙ c.iter-branch-items.ensures) c.first_child_id.ensures c.in_ok-push_text.ensures.put)
      c.in_ok-push_shape.ensures.put;
}

pub returns-in_err-push_key-clause-kept : goal.returns-in_err-push_key-clause-kept
returns-in_err-push_key-clause-kept g t c = at_error _ _ _ _ _ _ c.loop-branch.invariant.printed (Grows-same _ _ c.in_err-push_key.ensures.kept)

pub returns-in_err-push_shape-2-clause-kept : goal.returns-in_err-push_shape-2-clause-kept
returns-in_err-push_shape-2-clause-kept g t c =
    at_error _ _ _ _ _ _ (key_put (views c.args.map.now.nodes) (c.args.levels - 1) _ _ (41 ∷ []) _ _ c.loop-branch.branch-iterator c.next.new.self c.in-Some.branch.now _ c.loop-branch.invariant.printed c.in-Some.ensures.steps c.key.ensures c.in_ok-push_key.ensures.put) c.in_err-push_shape-2.ensures.kept

pub loop-branch-preserved : goal.loop-branch-preserved
loop-branch-preserved g t c = record {
  grown = omega arith;
  printed = child_put (views c.args.map.now.nodes) (c.args.levels - 1) _ _ (41 ∷ []) _ _ c.in-Some.branch.now.child c.next.new.self
      (key_put (views c.args.map.now.nodes) (c.args.levels - 1) _ _ (41 ∷ []) _ _ c.loop-branch.branch-iterator c.next.new.self c.in-Some.branch.now _ c.loop-branch.invariant.printed c.in-Some.ensures.steps c.key.ensures c.in_ok-push_key.ensures.put) c.in_ok-push_shape-2.ensures.put;
}

pub returns-clause-put : goal.returns-clause-put
returns-clause-put g t c =
    at_end _ _ _ _ _ _ c.loop-branch.invariant.printed _ (ap (λ l. branches_text (views c.args.map.now.nodes) (c.args.levels - 1) l ++ 41 ∷ []) c.in-None.ensures.steps.0) c.push_text-2.ensures.put

pub returns-clause-kept : goal.returns-clause-kept
returns-clause-kept g t c = not_at_end _ _ _ _ _ _ c.loop-branch.invariant.printed c.push_text-2.ensures.kept

pub returns-in_err-push_shape-clause-full : goal.returns-in_err-push_shape-clause-full
returns-in_err-push_shape-clause-full g t c =
    let whole = first_child_text c.args.map.now.nodes c.args.levels c.args.id c.first_child_id.result c.in-Internal.node (omega arith) (rw c.in-Internal.is at c.node.ensures) c.first_child_id.ensures in
    on_err _ (lacks_first c.args.text.now c.push_text.new.text _ _ (next_piece _ _ _ _ _ _ _ (to_print _ _) whole.1 c.in_ok-push_text.ensures.put) (omega arith) _ whole.0 refl c.in_err-push_shape.ensures.full)

pub returns-in_err-push_key-clause-full : goal.returns-in_err-push_key-clause-full
returns-in_err-push_key-clause-full g t c = on_err _ (lacks_short c.args.text.now c.loop-branch.text _ _ c.loop-branch.invariant.printed c.loop-branch.invariant.grown 22 (omega arith) c.in_err-push_key.ensures.full)

pub returns-in_err-push_shape-2-clause-full : goal.returns-in_err-push_shape-2-clause-full
returns-in_err-push_shape-2-clause-full g t c =
    on_err _ (lacks_first c.args.text.now c.push_key.new.text _ _ (key_put (views c.args.map.now.nodes) (c.args.levels - 1) _ _ (41 ∷ []) _ _ c.loop-branch.branch-iterator c.next.new.self c.in-Some.branch.now _ c.loop-branch.invariant.printed c.in-Some.ensures.steps c.key.ensures c.in_ok-push_key.ensures.put)
    (omega arith) _ _ (append_assoc (shape_under (views c.args.map.now.nodes) (c.args.levels - 1) c.in-Some.branch.now.child) (branches_text (views c.args.map.now.nodes) (c.args.levels - 1) c.next.new.self) (41 ∷ [])) c.in_err-push_shape-2.ensures.full)

pub returns-clause-full : goal.returns-clause-full
returns-clause-full g t c = OnErr-map _ c.push_text-2.ensures.full (lacks_short c.args.text.now c.loop-branch.text _ _ c.loop-branch.invariant.printed c.loop-branch.invariant.grown 1 (omega arith))
