use Rattle.std.specs.Ordering.{nat_cmp, on}
use Rattle.btree_item.specs.Pairs.{Ascends}
use Rattle.btree_internal.specs.Internal.{internal_view}
use Rattle.btree_view.specs.View.{items_of}
use Rattle.test_node.proofs.counted.internal_of.Given as goal

abbrev pub invariant-loop-index : goal.invariant-loop-index
invariant-loop-index g l = Ascends (on (λ key. key.number) nat_cmp) (items_of (internal_view l.node))
