use Rattle.btree_spelled.specs.IntegerLaws.{char-again}
use Rattle.btree_spelled.proofs.WiderLemmas.{on_ok_with}
use Rattle.btree_spelled.proofs.more.CharSpelled.put.Goals as goal

pub returns-clause-reads_back : goal.returns-clause-reads_back
returns-clause-reads_back g c = on_ok_with c.put.result (λ back rest. char-again c.args.self.now c.code_of.ensures.scalar rest (back rest)) (rw c.code_of.ensures.code at c.put.ensures.reads_back)
