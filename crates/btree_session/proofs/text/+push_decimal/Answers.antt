use Rattle.btree_session.proofs.Common.{arith}
use Rattle.btree_session.proofs.Digits.{decimal_pushed}
use Rattle.btree_session.proofs.text.+push_decimal.Goals as goal

pub returns-clause-items : goal.returns-clause-items
returns-clause-items t c = decimal_pushed c.args.number c.args.text.now.items c.push_decimal.new.text.items _ (omega arith) (omega arith) c.push_decimal.ensures.items c.push_reserved-2.ensures.items
