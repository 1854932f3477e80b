use Rattle.std.proofs.Common.{length}
use Rattle.std.specs.Ordering.{nat_cmp, on}
use Rattle.btree_laws.specs.Focus.Search.{levels_below}
use Rattle.btree_laws.specs.TreeState.{node_map, pairs_of}
use Rattle.btree_find.proofs.CountLemmas.{Counts}
use Rattle.btree_find.proofs.SearchLemmas.{Searches}
use Rattle.test_tree.proofs.counted.promised_from.Given as goal

abbrev pub invariant-loop-offset : goal.invariant-loop-offset
invariant-loop-offset g l = record {
  searches : Searches (on (λ key. key.number) nat_cmp) l.key l.tree l.top l.id;
  counts : Counts (on (λ key. key.number) nat_cmp) l.key l.tree l.top l.id 0 l.total;
}

abbrev pub decreases-loop-offset : goal.decreases-loop-offset
decreases-loop-offset g l = levels_below (node_map l.tree) (length (pairs_of l.tree)) l.id
