use Rattle.std.proofs.Common.{◌≤◌, map}
use Rattle.btree_view.proofs.CheckLemmas.{AscendUpTo}
use Rattle.btree_view.proofs.checks.keys_ascend.Given as goal

abbrev pub invariant-loop-index : goal.invariant-loop-index
invariant-loop-index g l = record {
  started : 1 ≤ l.index;
  ascend : AscendUpTo g.T.Key.Ord.cmp l.index (map g.T.Keyed.key_of l.slots);
}
