use Rattle.btree_find.proofs.Common.{length, levels_below, node_map, pairs_of}
use Rattle.btree_find.proofs.SearchLemmas.{Searches}
use Rattle.btree_find.proofs.search.get_in.Given as goal

abbrev pub invariant-loop-offset : goal.invariant-loop-offset
invariant-loop-offset g l =
    Searches g.Q.Query.compare l.key l.tree l.top l.id

abbrev pub decreases-loop-offset : goal.decreases-loop-offset
decreases-loop-offset g l =
    levels_below (node_map l.tree) (length (pairs_of l.tree)) l.id
