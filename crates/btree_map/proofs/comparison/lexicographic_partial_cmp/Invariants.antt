use Rattle.btree_map.proofs.Common.{◌≡◌, length}
use Rattle.std.specs.Cmp.Lexicographic.{slice_partial_cmp}
use Rattle.btree_map.specs.Comparison.{pair_partial_cmp}
use Rattle.btree_map.proofs.comparison.lexicographic_partial_cmp.Given as goal

abbrev pub invariant-loop-pair : goal.invariant-loop-pair
invariant-loop-pair g l =
    let order = slice_partial_cmp (pair_partial_cmp g.K.PartialOrd.partial_cmp g.V.PartialOrd.partial_cmp) in
    order l.left l.right ≡ order l.initial.left l.initial.right

abbrev pub decreases-loop-pair : goal.decreases-loop-pair
decreases-loop-pair g l = length l.left
