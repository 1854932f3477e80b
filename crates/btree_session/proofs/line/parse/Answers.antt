use Rattle.btree_session.proofs.Common.{sym, ap, ◌∙◌, subst, MeansLine}
use Rattle.btree_session.specs.declared.line.Line.TheVariants.{Other}
use Rattle.btree_session.specs.Line.{words_of}
use Rattle.btree_session.proofs.Sayings.{means_nothing}
use Rattle.btree_session.proofs.line.parse.Goals as goal

pub returns-in-None : goal.returns-in-None
returns-in-None c =
    subst (λ words. MeansLine words Other) (sym (ap words_of (sym c.without_last.ensures) ∙ c.in-Some.ensures.some))
    (means_nothing c.in-Some.name.now (words_of c.in-Some.rest.now) c.in-None.ensures)
