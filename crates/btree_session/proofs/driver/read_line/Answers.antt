use Rattle.btree_session.proofs.Common.{arith}
use Rattle.btree_session.proofs.Serving.{read_through}
use Rattle.btree_session.proofs.driver.read_line.Goals as goal

pub returns-in-Ok-clause-line : goal.returns-in-Ok-clause-line
returns-in-Ok-clause-line g c =
    read_through _ _ c.read_until.new.buf.items _ (rw c.clear.ensures.items at c.in-Ok.ensures.bytes) c.in-Ok.ensures.rest
    (omega (arith, c.read_until.new.buf.ok.0, c.in-Ok.ensures.ok, c.clear.ensures.len)) (rw (c.without_last.ensures, c.as_slice.ensures.value) at c.parse.ensures)
