use Rattle.btree_map.proofs.Common.{length, left_of}
use Rattle.btree_map.proofs.DrainRuns.{IsRunning}
use Rattle.btree_map.proofs.drain.steps.run_rest.Given as goal

abbrev pub invariant-loop-entries : goal.invariant-loop-entries
invariant-loop-entries g l = IsRunning g.P.PairTest.step g.P.PairTest.accepts l.fn.takes l.fn.test l.test l.fn.entries l.entries

abbrev pub decreases-loop-entries : goal.decreases-loop-entries
decreases-loop-entries g l = length (left_of l.entries)
