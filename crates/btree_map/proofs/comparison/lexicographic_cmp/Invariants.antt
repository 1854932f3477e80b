use Rattle.btree_map.proofs.Common.{◌≡◌, length}
use Rattle.std.specs.Cmp.Lexicographic.{slice_cmp}
use Rattle.btree_map.specs.Comparison.{pair_cmp}
use Rattle.btree_map.proofs.comparison.lexicographic_cmp.Given as goal

abbrev pub invariant-loop-pair : goal.invariant-loop-pair
invariant-loop-pair g l =
    let order = slice_cmp (pair_cmp g.K.Ord.cmp g.V.Ord.cmp) in
    order l.left l.right ≡ order l.initial.left l.initial.right

abbrev pub decreases-loop-pair : goal.decreases-loop-pair
decreases-loop-pair g l = length l.left
