use Rattle.std.proofs.lemmas.Result.{err_from_is_err_and}
use Rattle.btree_save.proofs.map.save.Goals as goal

pub returns-in_err-bytes-clause-written : goal.returns-in_err-bytes-clause-written
returns-in_err-bytes-clause-written g c =
    let p = err_from_is_err_and c.from_residual.result c.from_residual.ensures.1 in
    rw p.1 tt

pub returns-in-Ok-clause-written : goal.returns-in-Ok-clause-written
returns-in-Ok-clause-written g c = record { bytes = c.deref.result.now; appended = c.in-Ok.ensures.bytes; saved = rw c.deref.ensures.value c.in_ok-bytes.ensures.saved; only = rw c.deref.ensures.value c.in_ok-bytes.ensures.only }
