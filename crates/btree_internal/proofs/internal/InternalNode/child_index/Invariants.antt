use Rattle.btree_internal.proofs.Common.{◌≡◌, drop, ◌==◌, internal_view, children_of}
use Rattle.std.specs.List.{position_from}
use Rattle.btree_internal.proofs.internal.InternalNode.child_index.Given as goal

abbrev pub invariant-loop-index : goal.invariant-loop-index
invariant-loop-index g l =
    position_from (λ child. child == l.id) 0 (children_of (internal_view l.self))
    ≡ position_from (λ child. child == l.id) l.index (drop l.index (children_of (internal_view l.self)))
