use Rattle.btree_find.proofs.Common.{◌+◌, ◌≤◌, length, levels_below, node_map, pairs_of, levels_from}
use Rattle.std.proofs.Common.{◌*◌}
use Rattle.btree_find.proofs.CountLemmas.{Counts}
use Rattle.btree_find.proofs.SearchLemmas.{Searches}
use Rattle.btree_find.proofs.search.search_from.Given as goal

abbrev pub invariant-loop-offset : goal.invariant-loop-offset
invariant-loop-offset g l = record {
  searches : Searches g.Q.Query.compare l.key l.tree l.top l.id;
  counts : Counts g.Q.Query.compare l.key l.tree l.top l.id l.initial.steps.count l.steps.count;
  ticks : l.steps.count + 6 * levels_from l.tree l.id ≤ l.initial.steps.count + 6 * levels_from l.tree l.top;
}

abbrev pub decreases-loop-offset : goal.decreases-loop-offset
decreases-loop-offset g l =
    levels_below (node_map l.tree) (length (pairs_of l.tree)) l.id
