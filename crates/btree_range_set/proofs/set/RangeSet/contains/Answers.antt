use Rattle.btree_range_set.proofs.Common.{◌∙◌, pairs_of}
use Rattle.btree_range_set.proofs.PlaceLemmas.{around-told}
use Rattle.btree_range_set.proofs.set.RangeSet.contains.Goals as goal

pub returns : goal.returns
returns g c =
    let found = c.range_around.ensures in
    c.is_some.ensures ∙ rw (← c.self.view_is) (around-told (pairs_of c.self.inside.map) c.args.number c.range_around.result found.around found.none)
