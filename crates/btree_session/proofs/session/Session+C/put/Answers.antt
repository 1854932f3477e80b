use Rattle.btree_session.proofs.Common.{refl, subst, HoldsBack}
use Rattle.btree_session.proofs.Edits.{put-done, put-nowhere, put-refused, put-unfit}
use Rattle.btree_session.proofs.session.Session+C.put.Goals as goal

pub returns-in_default : goal.returns-in_default
returns-in_default g c =
    let was = rw (← c.self.view_is) at c.requires.tree in
    λ tree.
    rw (← c.self.view_is)
    (put-nowhere g.C.NodesMut.MayRefuse c.self.inside.map c.self.inside.map was.0 c.self.inside.held c.in_default.is c.args.key c.args.value)

pub returns-then-not-fits_at : goal.returns-then-not-fits_at
returns-then-not-fits_at g c =
    let was = rw (← c.self.view_is) at c.requires.tree in
    λ tree.
    let holds : HoldsBack c.self.inside.map c.self.inside.held = c.self.invariant in
    let back = subst (λ held. HoldsBack c.self.inside.map held) c.in-Some.is holds in
    rw (← c.self.view_is)
    (put-unfit g.C.NodesMut.MayRefuse c.self.inside.map c.self.inside.map was.0 c.self.inside.held c.in-Some.held c.in-Some.is c.args.key c.args.value back.valid
    (λ fits. let no = c.if-not-fits_at.ensures.1 fits in absurd (cc)))

pub returns-in-Ok : goal.returns-in-Ok
returns-in-Ok g c =
    let was = rw (← c.self.view_is) at c.requires.tree in
    λ tree.
    rw (← c.self.view_is)
    (put-done g.C.NodesMut.MayRefuse c.self.inside.map c.insert_at.new.self was.0 c.self.inside.held c.in-Some.held c.in-Some.is c.args.key c.args.value
    (c.if-not-fits_at.ensures.0 refl) tree c.in-Ok.addr (rw c.new.ensures at c.in-Ok.ensures.inserted))

pub returns-in-Err : goal.returns-in-Err
returns-in-Err g c =
    let was = rw (← c.self.view_is) at c.requires.tree in
    λ tree.
    rw (← c.self.view_is)
    (put-refused g.C.NodesMut.MayRefuse c.self.inside.map c.insert_at.new.self was.0 c.self.inside.held c.in-Some.held c.in-Some.is c.args.key c.args.value
    (c.if-not-fits_at.ensures.0 refl) tree c.in-Err.returned.cause was.1 c.in-Err.ensures.refused)
