use Rattle.std.proofs.Common.{arith}
use Rattle.btree_image.proofs.Again.{word-again}
use Rattle.btree_image.proofs.words.put_word.Goals as goal

pub returns-clause-is_read : goal.returns-clause-is_read
returns-clause-is_read g c = λ rest. word-again c.args.n rest (omega arith)
