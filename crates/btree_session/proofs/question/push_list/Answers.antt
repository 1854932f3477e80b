use Rattle.btree_session.proofs.Common.{rules, arith, refl, sym, ap, ◌∙◌, map, pair_text}
use Rattle.btree_session.proofs.Printing.{to_print-as, next_piece, at_error, all_put, Grows-same, list_open, on_err, behind-next, behind-none}
use Rattle.btree_session.proofs.Room.{lacks_short}
use Rattle.btree_session.proofs.question.push_list.Goals as goal

pub loop-key-init : goal.loop-key-init
loop-key-init g c = record {
  short = search rules;
  grown = omega arith;
  printed = to_print-as _ _ _ (list_open _ _ _ c.as_slice-before.ensures (c.into_iter-key-iterator.ensures.into_iter_gives ∙ c.iter-key-items.ensures) (λ none. let yes = sym c.if-is_empty.false ∙ c.is_empty.ensures.1 none in cc));
}

pub returns-in_err-push_pair-clause-kept : goal.returns-in_err-push_pair-clause-kept
returns-in_err-push_pair-clause-kept g c = at_error _ _ _ _ _ _ c.loop-key.invariant.printed (Grows-same _ _ c.in_err-push_pair.ensures.kept)

pub returns-in_err-push_pair-clause-full : goal.returns-in_err-push_pair-clause-full
returns-in_err-push_pair-clause-full g c = on_err _ (lacks_short c.args.text.now c.loop-key.text _ _ c.loop-key.invariant.printed c.loop-key.invariant.grown 42 (omega arith) c.in_err-push_pair.ensures.full)

pub loop-key-preserved : goal.loop-key-preserved
loop-key-preserved g c = record {
  short = search rules;
  grown = omega arith;
  printed = next_piece _ _ _ _ _ _ _ c.loop-key.invariant.printed
      (behind-next _ _ _ _ _ _ _ (ap (map pair_text) c.in-Some.ensures.steps) c.as_slice-before-in-loop-key.ensures refl)
      c.in_ok-push_pair.ensures.put;
}

pub returns-clause-put : goal.returns-clause-put
returns-clause-put g c = all_put _ _ _ _ c.loop-key.invariant.printed (behind-none _ _ _ (ap (map pair_text) c.in-None.ensures.steps.0))
