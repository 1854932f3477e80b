use Rattle.btree_map.proofs.Common.{◌≡◌, length}
use Rattle.std.specs.Cmp.Lexicographic.{pointwise}
use Rattle.btree_map.specs.Comparison.{pair_eq}
use Rattle.btree_map.proofs.comparison.is_same.Given as goal

abbrev pub invariant-loop-pair : goal.invariant-loop-pair
invariant-loop-pair g l =
    let same = pointwise (pair_eq g.K.PartialEq.eq g.V.PartialEq.eq) in
    same l.left l.right ≡ same l.initial.left l.initial.right

abbrev pub decreases-loop-pair : goal.decreases-loop-pair
decreases-loop-pair g l = length l.left
