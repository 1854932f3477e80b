use Rattle.btree_internal.proofs.Common.{Ok, ap, sym, ◌∙◌, internal_view, children_of}
use Rattle.std.proofs.Common.{Err}
use Rattle.btree_view.specs.LookUp.{placed}
use Rattle.btree_internal.proofs.internal.InternalNode.offset_of_counted.Goals as goal

pub returns-in-Ok-clause-value : goal.returns-in-Ok-clause-value
returns-in-Ok-clause-value g c = ap (λ o. Ok o) c.offset_at.ensures ∙ ap (λ r. placed r (children_of (internal_view c.args.self.now))) c.in-Ok.ensures.place

pub returns-in-Err-clause-value : goal.returns-in-Err-clause-value
returns-in-Err-clause-value g c = ap (λ o. Err (c.in-Err.index, o)) (sym c.child_id.ensures) ∙ ap (λ r. placed r (children_of (internal_view c.args.self.now))) c.in-Err.ensures.place
