use Rattle.btree_spelled.specs.IntegerLaws.{long-again}
use Rattle.btree_spelled.proofs.WiderLemmas.{on_ok_with}
use Rattle.btree_spelled.proofs.more.U128Spelled.put.Goals as goal

pub returns-clause-reads_back : goal.returns-clause-reads_back
returns-clause-reads_back g c = on_ok_with c.put.result (λ back rest. long-again c.args.self.now rest (back rest)) c.put.ensures.reads_back
