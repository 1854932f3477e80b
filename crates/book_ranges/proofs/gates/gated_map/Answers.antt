use Rattle.std.proofs.Common.{◌∙◌, ap}
use Rattle.std.specs.FinMap as map
use Rattle.book_ranges.proofs.gates.gated_map.Goals as goal

pub in_store-requires-clause-empty : goal.in_store-requires-clause-empty
in_store-requires-clause-empty c = rw c.over.ensures (ap map.len c.empty-nodes.ensures.content ∙ map.len-empty _ _)
