use Rattle.btree_walk.proofs.Common.{◌≡◌, length, AreFetched}
use Rattle.btree_walk.proofs.fetched.fetch_children.Given as goal

abbrev pub invariant-loop-index : goal.invariant-loop-index
invariant-loop-index g l = record {
  fetched : AreFetched l.tree l.fetched;
  counted : length l.fetched ≡ l.index;
}
