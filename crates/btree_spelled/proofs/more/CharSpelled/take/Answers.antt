use Rattle.std.proofs.Common.{rules}
use Rattle.btree_spelled.specs.Integers.{char_read}
use Rattle.btree_spelled.proofs.more.CharSpelled.take.Goals as goal

pub returns-in_err-code : goal.returns-in_err-code
unfolding char_read
returns-in_err-code c = search rules

pub returns-in_err-value : goal.returns-in_err-value
unfolding char_read
returns-in_err-value c = search rules

pub returns : goal.returns
unfolding char_read
returns c = search rules
