use Rattle.btree_map.proofs.Common.{◌∙◌, ap, sym, is_past_end, bound_key}
use Rattle.std.specs.Ordering.{is_le}
use Rattle.btree_map.proofs.range_removal.is_past.Goals as goal

pub returns-in-Excluded : goal.returns-in-Excluded
returns-in-Excluded g c =
    c.is_le.ensures ∙ ap is_le c.cmp-in-Excluded.ensures
    ∙ ap (λ b. is_past_end g.K.Ord.cmp (bound_key b) c.args.key.now) (sym c.in-Excluded.is)
