use Rattle.btree_session.proofs.Edits.{remove-done}
use Rattle.btree_session.proofs.session.Session+C.remove.Goals as goal

pub returns : goal.returns
returns g c =
    let was = rw (← c.self.view_is) at c.requires.tree in
    λ tree.
    rw (c.reply_of.ensures, ← c.self.view_is)
    (remove-done g.C.NodesMut.MayRefuse c.self.inside.map c.remove-value.new.self was.0 c.self.inside.held c.self.invariant tree
    c.args.key c.remove-value.result c.remove-value.ensures.value c.remove-value.ensures.removed_by_key c.remove-value.ensures.unchanged)
