use Rattle.std.proofs.Common.{◌∙◌, ap}
use Rattle.std.specs.FinMap as map
use Rattle.book_maps.proofs.merges.split_off.Goals as goal

pub split_off-requires-clause-empty : goal.split_off-requires-clause-empty
split_off-requires-clause-empty g c = ap map.len c.empty.ensures.content ∙ map.len-empty _ _
