use Rattle.std.proofs.Common.{◌≡◌, ◌++◌, List, ℕ, Some, take}
use Rattle.btree_spelled.specs.Arrays.{items_bytes, items_read}
use Rattle.btree_spelled.proofs.arrays.put_items.Given as goal

abbrev pub invariant-loop-item : goal.invariant-loop-item
invariant-loop-item g l =
    (l.out.items ≡ l.initial.out.items ++ items_bytes g.T.Spelled.spelling (take l.item-index l.items))
    × ((rest : List ℕ) → items_read g.T.Spelled.read l.item-index (items_bytes g.T.Spelled.spelling (take l.item-index l.items) ++ rest) ≡ Some (take l.item-index l.items, rest))
