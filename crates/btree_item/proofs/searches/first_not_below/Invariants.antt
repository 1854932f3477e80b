use Rattle.btree_item.proofs.Common.{◌≡◌, ◌+◌, ◌≤◌, ◌<◌, map, AllBelow}
use Rattle.btree_item.specs.Keys.{IsNotBelowAt}
use Rattle.btree_item.proofs.searches.first_not_below.Given as goal

abbrev pub invariant-loop-i : goal.invariant-loop-i
invariant-loop-i g l = record {
  ticks : l.steps.count + l.start ≡ l.initial.steps.count + l.i;
  reached : l.place ≤ l.i;
  from : l.start ≤ l.place;
  before : AllBelow g.Q.Query.compare l.key l.place (map g.T.Keyed.key_of l.slots);
  here : l.place < l.i → IsNotBelowAt g.Q.Query.compare l.key l.place (map g.T.Keyed.key_of l.slots);
}
