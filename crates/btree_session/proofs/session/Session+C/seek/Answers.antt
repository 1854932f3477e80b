use Rattle.btree_session.proofs.Moves.{seek-found, seek-gap}
use Rattle.btree_session.proofs.session.Session+C.seek.Goals as goal

pub returns-in-Ok : goal.returns-in-Ok
returns-in-Ok g c =
    let was = rw (← c.self.view_is) at c.requires.tree in
    rw (← c.self.view_is)
    (seek-found g.C.NodesMut.MayRefuse c.self.inside.map was.0 c.self.inside.held c.self.invariant c.args.key c.in-Ok.addr
    c.in-Ok.ensures c.pair_at-value.result c.pair_at-value.ensures)

pub returns-in-Err : goal.returns-in-Err
returns-in-Err g c =
    let was = rw (← c.self.view_is) at c.requires.tree in
    rw (← c.self.view_is)
    (seek-gap g.C.NodesMut.MayRefuse c.self.inside.map was.0 c.self.inside.held c.self.invariant c.args.key c.in-Err.gap c.in-Err.ensures)
