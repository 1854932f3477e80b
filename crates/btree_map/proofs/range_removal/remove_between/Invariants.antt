use Rattle.btree_map.proofs.Common.{◌≡◌, ◌++◌, List, [], false, length, is_past_end, AllByRecursion, bound_key, left_of, passed_of, AddsNoNode}
use Rattle.btree_map.proofs.range_removal.remove_between.Given as goal

abbrev pub invariant-rest : goal.invariant-rest
invariant-rest g l = record {
  same_map : l.pairs.map.ghost_name ≡ l.initial.pairs.map.ghost_name;
  passed : passed_of l.pairs ≡ passed_of l.initial.pairs;
  gone : List (g.row.K.Denot × g.row.V.Denot);
  left : left_of l.initial.pairs ≡ gone ++ left_of l.pairs;
  none : gone ≡ [] → l.pairs ≡ l.initial.pairs;
  frees : AddsNoNode l.initial.pairs.map.now l.pairs.map.now;
  uncounted : l.pairs.map.now.kept ≡ l.initial.pairs.map.now.kept;
  until : AllByRecursion (λ x. is_past_end g.K.Ord.cmp (bound_key l.fn.end) x.0 ≡ false) gone;
}

abbrev pub decreases-rest : goal.decreases-rest
decreases-rest g l = length (left_of l.pairs)
