use Rattle.btree_raw.proofs.Common.{List, ℕ, ◌+◌, if◌then◌else◌, length, TreeState, KeepsRest, node_map}
use Rattle.std.proofs.Common.{is_some}
use Rattle.btree_raw.specs.Steps.{IsCutFrom}
use Rattle.btree_raw.proofs.UpwardLemmas.{ReachesCut}
use Rattle.btree_raw.proofs.splits.split_from.Given as goal

abbrev pub invariant-loop-next : goal.invariant-loop-next
invariant-loop-next g l = (begun : TreeState _ _) (spare : List ℕ) → IsCutFrom begun l.fn.tree l.start l.fn.cut spare l.fn.claims.items l.fn.addr → record {
  reached : ReachesCut (node_map begun) (node_map l.tree) begun.root l.start l.id spare l.claims.items l.fn.addr l.at l.next;
  rest : KeepsRest begun l.tree;
}

abbrev pub decreases-loop-next : goal.decreases-loop-next
decreases-loop-next g l = length l.claims.items + (if is_some l.next then 1 else 0)
