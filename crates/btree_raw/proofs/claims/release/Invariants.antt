use Rattle.btree_raw.proofs.Common.{length, TreeState, AreClaimed}
use Rattle.btree_raw.proofs.claims.release.Given as goal

abbrev pub invariant-loop-id : goal.invariant-loop-id
invariant-loop-id g l = (base : TreeState _ _) → AreClaimed base l.fn.tree l.fn.claims.items → AreClaimed base l.tree l.claims.items

abbrev pub decreases-loop-id : goal.decreases-loop-id
decreases-loop-id g l = length l.claims.items
