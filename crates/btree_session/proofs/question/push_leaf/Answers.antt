use Rattle.btree_session.proofs.Common.{rules, arith, ap, ◌∙◌, ◌++◌, append-nil, map, decimal}
use Rattle.btree_session.proofs.Printing.{to_print, next_piece, on_err, at_error, at_end, not_at_end, Grows-same, bracket_open, behind-next, behind-none}
use Rattle.btree_session.proofs.Room.{OnErr-map, lacks_short}
use Rattle.btree_session.proofs.question.push_leaf.Goals as goal

pub returns-in_err-push_text-clause-kept : goal.returns-in_err-push_text-clause-kept
returns-in_err-push_text-clause-kept c = on_err _ (Grows-same _ _ c.in_err-push_text.ensures.kept)

pub loop-item-init : goal.loop-item-init
loop-item-init c = record {
  short = search rules;
  grown = omega arith;
  printed = next_piece _ _ _ _ _ _ _ (to_print _ _)
      (bracket_open _ _ _ c.as_slice-before.ensures (ap (map (λ pair. decimal pair.0)) (c.into_iter-item-iterator.ensures.into_iter_gives ∙ c.iter-item-items.ensures)))
      c.in_ok-push_text.ensures.put;
}

pub returns-in_err-push_key-clause-kept : goal.returns-in_err-push_key-clause-kept
returns-in_err-push_key-clause-kept c = at_error _ _ _ _ _ _ c.loop-item.invariant.printed (Grows-same _ _ c.in_err-push_key.ensures.kept)

pub returns-in_err-push_key-clause-full : goal.returns-in_err-push_key-clause-full
returns-in_err-push_key-clause-full c = on_err _ (lacks_short c.args.text.now c.loop-item.text _ _ c.loop-item.invariant.printed c.loop-item.invariant.grown 22 (omega arith) c.in_err-push_key.ensures.full)

pub loop-item-preserved : goal.loop-item-preserved
loop-item-preserved c = record {
  short = search rules;
  grown = omega arith;
  printed = next_piece _ _ _ _ _ _ _ c.loop-item.invariant.printed
      (behind-next _ _ _ _ _ _ _ (ap (map (λ pair. decimal pair.0)) c.in-Some.ensures.steps) c.as_slice-before-in-loop-item.ensures
      (append-nil (c.loop-item.before.now ++ decimal c.key.result.now) ∙ ap (λ key. c.loop-item.before.now ++ decimal key) c.key.ensures))
      c.in_ok-push_key.ensures.put;
}

pub returns-clause-put : goal.returns-clause-put
returns-clause-put c = at_end _ _ _ _ _ _ c.loop-item.invariant.printed _ (behind-none _ _ _ (ap (map (λ pair. decimal pair.0)) c.in-None.ensures.steps.0)) c.push_text-2.ensures.put

pub returns-clause-kept : goal.returns-clause-kept
returns-clause-kept c = not_at_end _ _ _ _ _ _ c.loop-item.invariant.printed c.push_text-2.ensures.kept

pub returns-clause-full : goal.returns-clause-full
returns-clause-full c = OnErr-map _ c.push_text-2.ensures.full (lacks_short c.args.text.now c.loop-item.text _ _ c.loop-item.invariant.printed c.loop-item.invariant.grown 1 (omega arith))
