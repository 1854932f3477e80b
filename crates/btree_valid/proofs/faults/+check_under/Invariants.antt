use Rattle.btree_valid.proofs.Common.{◌≡◌, ◌-◌, None, view_of}
use Rattle.btree_valid.proofs.BlameLemmas.{AreMet}
use Rattle.btree_valid.proofs.ExactLemmas.{IsDone}
use Rattle.btree_valid.proofs.FaultLemmas.{AreLeft}
use Rattle.btree_valid.proofs.faults.+check_under.Given as goal

abbrev pub decreases-check_under : goal.decreases-check_under
decreases-check_under g l = 32 - l.spot.level

abbrev pub invariant-loop-index : goal.invariant-loop-index
invariant-loop-index g l =
    IsDone (g.C.Nodes.content l.nodes) g.K.Ord.cmp g.met.K.Ord.total l.fn.exempt l.fn.spot l.fn.met (view_of l.node) l.index l.passed
    × AreLeft (g.C.Nodes.content l.nodes) g.K.Ord.cmp l.fn.exempt l.fn.spot l.fn.met l.index l.passed
    × (l.fn.exempt ≡ None → AreMet (g.C.Nodes.content l.nodes) g.K.Ord.cmp l.fn.spot l.fn.met l.index l.passed)
