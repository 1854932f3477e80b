use Rattle.btree_raw.proofs.Common.{◌≡◌, length, AreClaimed}
use Rattle.btree_raw.proofs.claims.claim.Given as goal

abbrev pub invariant-loop-index : goal.invariant-loop-index
invariant-loop-index g l = record {
  held : AreClaimed l.fn.tree l.tree l.claims.items;
  counted : length l.claims.items ≡ l.index;
}
