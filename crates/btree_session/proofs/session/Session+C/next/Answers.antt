use Rattle.btree_session.proofs.Moves.{at_held, from_held, next-none, next-nowhere, next-past, next-some}
use Rattle.btree_session.proofs.session.Session+C.next.Goals as goal

pub returns-in_default : goal.returns-in_default
returns-in_default g c =
    let was = rw (← c.self.view_is) at c.requires.tree in
    rw (← c.self.view_is) (next-nowhere g.C.NodesMut.MayRefuse c.self.inside.map was.0 c.self.inside.held c.in_default.is)

pub returns-in_default-normalize : goal.returns-in_default-normalize
returns-in_default-normalize g c =
    let was = rw (← c.self.view_is) at c.requires.tree in
    rw (← c.self.view_is)
    (at_held g.C.NodesMut.MayRefuse c.self.inside.map was.0 c.self.inside.held c.in-Some.held c.in-Some.is _ _
    (next-past g.C.NodesMut.MayRefuse c.self.inside.map was.0 c.in-Some.held c.in_default-normalize.ensures))

pub returns-in_default-next_item_address : goal.returns-in_default-next_item_address
returns-in_default-next_item_address g c =
    let was = rw (← c.self.view_is) at c.requires.tree in
    rw (← c.self.view_is)
    (at_held g.C.NodesMut.MayRefuse c.self.inside.map was.0 c.self.inside.held c.in-Some.held c.in-Some.is _ _
    (next-none g.C.NodesMut.MayRefuse c.self.inside.map was.0 c.in-Some.held c.in-Some-normalize.addr c.in-Some-normalize.ensures
    c.in_default-next_item_address.ensures))

pub returns : goal.returns
returns g c =
    let was = rw (← c.self.view_is) at c.requires.tree in
    rw (← c.self.view_is)
    (from_held g.C.NodesMut.MayRefuse c.self.inside.map was.0 c.self.inside.held c.in-Some.held c.in-Some.is _ _ _
    (next-some g.C.NodesMut.MayRefuse c.self.inside.map was.0 c.in-Some.held c.in-Some-normalize.addr c.in-Some-normalize.ensures
    c.in-Some-next_item_address.next c.pair_at-key.result c.in-Some-next_item_address.ensures c.pair_at-key.ensures))
