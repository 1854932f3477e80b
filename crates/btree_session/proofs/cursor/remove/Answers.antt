use Rattle.btree_session.proofs.CursorMoves.{removes-first, removes-none}
use Rattle.btree_session.proofs.cursor.remove.Goals as goal

pub returns-in-Some-clause-step : goal.returns-in-Some-clause-step
returns-in-Some-clause-step g c = rw (c.key.ensures, c.value.ensures) (removes-first c.args.entries.now _ c.in-Some.item c.in-Some.ensures.removed)

pub returns-in-None-clause-step : goal.returns-in-None-clause-step
returns-in-None-clause-step g c = rw c.in-None.ensures.unchanged (removes-none c.args.entries.now c.in-None.ensures.none)
