use Rattle.std.proofs.Common.{◌∙◌, ap}
use Rattle.std.specs.FinMap as map
use Rattle.test_map.proofs.dropped.split.Goals as goal

pub split_off-requires-clause-empty : goal.split_off-requires-clause-empty
split_off-requires-clause-empty g c = ap map.len c.empty.ensures.content ∙ map.len-empty _ _
