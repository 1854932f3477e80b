use Rattle.std.specs.Prelude.{◌≡◌}
use Rattle.std.specs.FinMap as map
use Rattle.btree_laws.specs.Focus.Search.{levels_below}
use Rattle.btree_raw.proofs.Common.{node_map}
use Rattle.btree_raw.proofs.LastLemmas.{DescendsRight}
use Rattle.btree_raw.proofs.removal.take_last_below.Given as goal

abbrev pub invariant-loop-item : goal.invariant-loop-item
invariant-loop-item g l = (l.tree ≡ l.fn.tree) × DescendsRight l.fn.tree l.id l.lower

abbrev pub decreases-loop-item : goal.decreases-loop-item
decreases-loop-item g l = levels_below (node_map l.fn.tree) (map.len l.fn.tree.nodes) l.lower
