use Rattle.btree_session.proofs.Edits.{take-nowhere, take-pair, take-past}
use Rattle.btree_session.proofs.session.Session+C.take.Goals as goal

pub returns-in_default : goal.returns-in_default
returns-in_default g c =
    let was = rw (← c.self.view_is) at c.requires.tree in
    rw (← c.self.view_is) (take-nowhere g.C.NodesMut.MayRefuse c.self.inside.map c.self.inside.map was.0 c.self.inside.held c.in_default.is)

pub returns-in_default-normalize : goal.returns-in_default-normalize
returns-in_default-normalize g c =
    let was = rw (← c.self.view_is) at c.requires.tree in
    rw (← c.self.view_is)
    (take-past g.C.NodesMut.MayRefuse c.self.inside.map c.self.inside.map was.0 c.self.inside.held c.in-Some.held c.in-Some.is c.in_default-normalize.ensures)

pub returns : goal.returns
returns g c =
    let was = rw (← c.self.view_is) at c.requires.tree in
    rw (c.key.ensures, c.value.ensures, ← c.self.view_is)
    (take-pair g.C.NodesMut.MayRefuse c.self.inside.map c.remove_at.new.self was.0 c.self.inside.held c.in-Some.held c.in-Some.is c.in-Some-normalize.addr c.in-Some-normalize.ensures
    c.in-Some-remove_at.item c.in-Some-remove_at.after c.in-Some-remove_at.ensures.removed)
