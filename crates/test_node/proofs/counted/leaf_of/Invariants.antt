use Rattle.std.specs.Ordering.{nat_cmp, on}
use Rattle.btree_item.specs.Pairs.{Ascends}
use Rattle.test_node.proofs.counted.leaf_of.Given as goal

abbrev pub invariant-loop-index : goal.invariant-loop-index
invariant-loop-index g l = Ascends (on (λ key. key.number) nat_cmp) l.leaf.items
