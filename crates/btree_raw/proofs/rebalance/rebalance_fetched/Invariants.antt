use Rattle.btree_raw.proofs.Common.{length, pairs_of}
use Rattle.btree_raw.proofs.rebalance.rebalance_fetched.Given as goal

abbrev pub ghost-fix_underflow_upward : goal.ghost-fix_underflow_upward
ghost-fix_underflow_upward g a = length (pairs_of a.tree.now)
