use Rattle.btree_session.proofs.ArgumentLemmas.{no-table, table-alone, table-asked}
use Rattle.btree_session.proofs.arguments.setup.Goals as goal

pub returns-in_err-limit-in-len1-up : goal.returns-in_err-limit-in-len1-up
returns-in_err-limit-in-len1-up c =
    rw c.from_residual.ensures (λ asked. table-alone c.args.words.now _ c.in-len1-up.len_at_least c.if-eq.ensures c.in_err-limit-in-len1-up.ensures asked.table asked.limit)

pub returns-then-eq : goal.returns-then-eq
returns-then-eq c = table-asked c.args.words.now _ c.in-len1-up.len_at_least c.if-eq.ensures _ c.in_ok-limit-in-len1-up.ensures

pub returns-in_err-limit-in-len1-up-2 : goal.returns-in_err-limit-in-len1-up-2
returns-in_err-limit-in-len1-up-2 c =
    rw c.from_residual-in_err-limit-in-len1-up-2.ensures (λ asked. no-table c.args.words.now _ c.if-eq.ensures c.in_err-limit-in-len1-up-2.ensures asked.table asked.limit)
