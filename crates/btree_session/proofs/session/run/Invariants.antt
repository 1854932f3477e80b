use Rattle.btree_session.proofs.Common.{◌+◌, ◌≤◌, take, length, vec_len, vec_capacity, IsStep}
use Rattle.btree_session.proofs.Runs.{HasAnswered}
use Rattle.btree_session.proofs.session.run.Given as goal

abbrev pub invariant-loop-command : goal.invariant-loop-command
invariant-loop-command g l = record {
  room : vec_len l.replies + length l.commands ≤ vec_capacity l.replies + l.command-index;
  given : HasAnswered (IsStep g.C.NodesMut.MayRefuse) l.initial.session (take l.command-index l.commands) l.initial.replies.items l.replies.items l.session;
}
