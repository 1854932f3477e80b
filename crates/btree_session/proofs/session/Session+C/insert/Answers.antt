use Rattle.btree_session.proofs.Common.{refl}
use Rattle.btree_session.proofs.Steps.{insert-done, insert-refused}
use Rattle.btree_session.proofs.session.Session+C.insert.Goals as goal

pub returns-in-Ok : goal.returns-in-Ok
returns-in-Ok g c =
    let was = rw (← c.self.view_is) at c.requires.tree in
    λ tree.
    let done = c.in-Ok.ensures in
    rw (c.reply_of.ensures, ← c.self.view_is)
    (insert-done g.C.NodesMut.MayRefuse _ _ was.0 c.self.invariant tree c.args.key c.args.value
    done.inserted done.inserted_by_key done.uncounted refl _ done.old)

pub returns-in-Err : goal.returns-in-Err
returns-in-Err g c =
    let was = rw (← c.self.view_is) at c.requires.tree in
    λ tree.
    rw (← c.self.view_is)
    (insert-refused g.C.NodesMut.MayRefuse _ _ was.0 c.self.invariant tree was.1 c.args.key c.args.value
    refl c.in-Err.refused.cause c.in-Err.ensures.absent c.in-Err.ensures.cause)
