use Rattle.btree_session.proofs.Common.{◌∙◌}
use Rattle.btree_session.proofs.Steps.{get-done}
use Rattle.btree_session.proofs.session.Session+C.get.Goals as goal

pub returns : goal.returns
returns g c =
    let was = rw (← c.self.view_is) at c.requires.tree in
    rw (c.reply_of.ensures, ← c.self.view_is) (get-done g.C.NodesMut.MayRefuse _ was.0 c.self.invariant c.args.key _ (c.copied.ensures ∙ c.get.ensures))
