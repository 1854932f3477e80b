use Rattle.btree_walk.proofs.Common.{◌∙◌, ap}
use Rattle.std.specs.Ordering.{is_lt}
use Rattle.btree_walk.proofs.bounds.is_valid_range.Goals as goal

pub returns-in-Excluded-Excluded : goal.returns-in-Excluded-Excluded
returns-in-Excluded-Excluded g c =
    rw (c.in-Excluded-Excluded.is-0, c.in-Excluded-Excluded.is-1) (c.is_lt.ensures ∙ ap is_lt c.cmp.ensures)
