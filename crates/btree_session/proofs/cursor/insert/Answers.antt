use Rattle.btree_session.proofs.Common.{refl}
use Rattle.btree_session.proofs.CursorMoves.{inserts-pair, refuses-pair}
use Rattle.btree_session.proofs.cursor.insert.Goals as goal

pub returns-in-Ok-clause-step : goal.returns-in-Ok-clause-step
returns-in-Ok-clause-step g c = inserts-pair c.args.entries.now _ c.args.key c.args.value (c.if-not-fits.ensures.0 refl) c.in-Ok.ensures.inserted

pub returns-in-Err-clause-step : goal.returns-in-Err-clause-step
returns-in-Err-clause-step g c =
    refuses-pair c.args.entries.now _ c.args.key c.args.value (c.if-not-fits.ensures.0 refl) c.in-Err.refused.cause c.in-Err.ensures.refused
