use Rattle.btree_session.proofs.Common.{arith}
use Rattle.btree_session.proofs.Runs.{one_more}
use Rattle.btree_session.proofs.session.run.Goals as goal

pub loop-command-preserved : goal.loop-command-preserved
loop-command-preserved g c = record {
  room = omega arith;
  given = one_more _ _ _ _ _ _ _ _ _ _ _ c.loop-command.invariant.given c.loop-command-test.true c.execute.ensures c.push_reserved.ensures.items;
}
