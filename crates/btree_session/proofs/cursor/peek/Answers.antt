use Rattle.btree_session.proofs.CursorMoves.{peeks-first, peeks-past}
use Rattle.btree_session.proofs.cursor.peek.Goals as goal

pub returns-in-Some : goal.returns-in-Some
returns-in-Some g c = rw (c.key.ensures, c.value.ensures) (peeks-first c.args.entries.now c.in-Some.item.now c.in-Some.ensures)

pub returns-in-None : goal.returns-in-None
returns-in-None g c = peeks-past c.args.entries.now c.in-None.ensures
