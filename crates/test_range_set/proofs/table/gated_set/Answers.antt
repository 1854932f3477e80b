use Rattle.std.proofs.Common.{◌∙◌, ap}
use Rattle.std.specs.FinMap as map
use Rattle.test_range_set.proofs.table.gated_set.Goals as goal

pub in_store-requires : goal.in_store-requires
in_store-requires c = rw c.over.ensures (ap map.len c.empty-nodes.ensures.content ∙ map.len-empty _ _)
