use Rattle.btree_session.proofs.Common.{sym}
use Rattle.btree_session.proofs.Serving.{in_reader}
use Rattle.btree_session.proofs.driver.buffered_line.Goals as goal

pub returns-clause-line : goal.returns-clause-line
returns-clause-line g c =
    in_reader _ _ _ _ c.in_ok-len.len _ (sym (rw c.buffer.ensures at c.in_ok-len.ensures)) (rw (c.split_at.ensures.front, c.buffer-2.ensures) at c.parse-said.ensures) c.consume.ensures.bytes
