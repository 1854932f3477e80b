use Rattle.btree_session.proofs.CursorMoves.{passes-first}
use Rattle.btree_session.proofs.cursor.next.Goals as goal

pub returns-clause-step : goal.returns-clause-step
returns-clause-step g c = passes-first c.args.entries.now _ _ (c.next_pair-value.ensures.writes c.next_pair-value.result.1.now)
