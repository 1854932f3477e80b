use Rattle.btree_session.proofs.Common.{◌∙◌, arith}
use Rattle.btree_session.proofs.Runs.{one_more}
use Rattle.btree_session.proofs.cursor.run_cursor.Goals as goal

pub loop-step-preserved : goal.loop-step-preserved
loop-step-preserved g c = record {
  room = omega arith;
  same_map = c.take_step.ensures.same_map ∙ c.loop-step.invariant.same_map;
  given = one_more _ _ _ _ _ _ _ _ _ _ _ c.loop-step.invariant.given c.loop-step-test.true c.take_step.ensures.step c.push_reserved.ensures.items;
}
