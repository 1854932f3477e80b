use Rattle.std.proofs.Common.{◌≡◌, Some, length, take}
use Rattle.btree_spelled.specs.Arrays.{items_read}
use Rattle.btree_spelled.proofs.arrays.take_items.Given as goal

abbrev pub invariant-loop-at : goal.invariant-loop-at
invariant-loop-at g l =
    (length l.items ≡ length l.initial.items) × (items_read g.T.Spelled.read l.at l.bytes ≡ Some (take l.at l.items, l.rest))
