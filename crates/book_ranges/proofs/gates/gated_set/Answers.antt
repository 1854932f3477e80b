use Rattle.std.proofs.Common.{◌∙◌, ap}
use Rattle.std.specs.FinMap as map
use Rattle.book_ranges.proofs.gates.gated_set.Goals as goal

pub in_store-requires : goal.in_store-requires
in_store-requires c = rw c.over.ensures (ap map.len c.empty-nodes.ensures.content ∙ map.len-empty _ _)
