-- The branches of an internal node fit in memory if the node does.
use denote.Param.{layout, number, param}
use denote.RattleType.{RattleType}
use prog.Memory.{size}
use Rattle.btree_internal.proofs.Common.{◌<◌, arith}
use Rattle.std.proofs.Common.{◌^◌}
use Rattle.btree_item.specs.contracts.slots.Slots.{the_row as slots_row}
use Rattle.btree_internal.specs.contracts.internal.Branch.{the_row as branch_row}
use Rattle.btree_internal.specs.contracts.internal.InternalNode.{the_row as internal_row}

pub fits-slots : (k v : RattleType) → size (layout (internal_row (param 0 k) (param 1 v))) < 2 ^ 63 → size (layout (slots_row (branch_row (param 0 k) (param 1 v)) (number 8))) < 2 ^ 63
fits-slots k v fits = omega arith
