use Rattle.btree_session.proofs.Common.{◌≡◌, ◌+◌, ◌≤◌, take, length, vec_len, vec_capacity}
use Rattle.btree_session.specs.CursorMachine.{IsCursorStep, spot_of}
use Rattle.btree_session.proofs.Runs.{HasAnswered}
use Rattle.btree_session.proofs.cursor.run_cursor.Given as goal

abbrev pub invariant-loop-step : goal.invariant-loop-step
invariant-loop-step g l = record {
  room : vec_len l.replies + length l.steps ≤ vec_capacity l.replies + l.step-index;
  same_map : l.entries.map.ghost_name ≡ l.initial.entries.map.ghost_name;
  given : HasAnswered (IsCursorStep g.C.NodesMut.MayRefuse) (spot_of l.initial.entries) (take l.step-index l.steps) l.initial.replies.items l.replies.items (spot_of l.entries);
}
