use Rattle.btree_session.proofs.Moves.{at_held, from_held, prev-none, prev-nowhere, prev-some}
use Rattle.btree_session.proofs.session.Session+C.prev.Goals as goal

pub returns-in_default : goal.returns-in_default
returns-in_default g c =
    let was = rw (← c.self.view_is) at c.requires.tree in
    rw (← c.self.view_is) (prev-nowhere g.C.NodesMut.MayRefuse c.self.inside.map was.0 c.self.inside.held c.in_default.is)

pub returns-in_default-previous_item_address : goal.returns-in_default-previous_item_address
returns-in_default-previous_item_address g c =
    let was = rw (← c.self.view_is) at c.requires.tree in
    rw (← c.self.view_is)
    (at_held g.C.NodesMut.MayRefuse c.self.inside.map was.0 c.self.inside.held c.in-Some.held c.in-Some.is _ _
    (prev-none g.C.NodesMut.MayRefuse c.self.inside.map was.0 c.in-Some.held c.in_default-previous_item_address.ensures))

pub returns : goal.returns
returns g c =
    let was = rw (← c.self.view_is) at c.requires.tree in
    rw (← c.self.view_is)
    (from_held g.C.NodesMut.MayRefuse c.self.inside.map was.0 c.self.inside.held c.in-Some.held c.in-Some.is _ _ _
    (prev-some g.C.NodesMut.MayRefuse c.self.inside.map was.0 c.in-Some.held
    c.in-Some-previous_item_address.previous c.pair_at-key.result c.in-Some-previous_item_address.ensures c.pair_at-key.ensures))
