use Rattle.btree_session.proofs.Common.{subst, IsNumber}
use Rattle.btree_session.proofs.ArgumentLemmas.{limit-asked}
use Rattle.btree_session.proofs.arguments.limit_of.Goals as goal

pub returns-in_ok-number-in-len2 : goal.returns-in_ok-number-in-len2
returns-in_ok-number-in-len2 c =
    limit-asked c.args.words.now _ c.in_ok-number-in-len2.field-0 c.in-len2.len_at_least c.in-len2.len_below c.if-eq.ensures
    (subst (λ word. IsNumber c.in_ok-number-in-len2.field-0 word) c.as_bytes.ensures.value c.in_ok-number-in-len2.ensures)
