use Rattle.btree_session.proofs.Edits.{clear-done}
use Rattle.btree_session.proofs.session.Session+C.clear.Goals as goal

pub returns : goal.returns
returns g c =
    let was = rw (← c.self.view_is) at c.requires.tree in
    λ tree.
    rw (← c.self.view_is)
    (clear-done g.C.NodesMut.MayRefuse c.self.inside.map c.clear.new.self was.0 c.self.inside.held c.self.invariant tree
    c.clear.ensures.empty c.clear.ensures.state)
