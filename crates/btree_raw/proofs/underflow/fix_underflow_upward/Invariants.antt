use Rattle.btree_raw.proofs.Common.{levels_above, KeepsRest, node_map, IsFit, HasCount, HasParent}
use Rattle.btree_raw.specs.Rebalance.{StaysAsIs}
use Rattle.btree_raw.proofs.FixedLemmas.{FixedUpTo}
use Rattle.btree_raw.proofs.underflow.fix_underflow_upward.Given as goal

abbrev pub invariant-loop-held : goal.invariant-loop-held
invariant-loop-held g l = record {
  up_to : FixedUpTo _ (node_map l.fn.tree) (node_map l.tree) l.fn.tree.root l.start l.id l.fn.addr l.at;
  rest : KeepsRest l.fn.tree l.tree;
  count : HasCount (node_map l.tree) l.id l.held;
  parent : HasParent (node_map l.tree) l.id l.above;
  stays : IsFit (node_map l.fn.tree) l.fn.tree.root l.start → StaysAsIs l.fn.tree l.tree l.fn.addr l.at;
  fit : IsFit (node_map l.fn.tree) l.fn.tree.root l.start → IsFit (node_map l.tree) l.fn.tree.root l.id;
}

abbrev pub decreases-loop-held : goal.decreases-loop-held
decreases-loop-held g l = levels_above (node_map l.tree) g.items l.id
