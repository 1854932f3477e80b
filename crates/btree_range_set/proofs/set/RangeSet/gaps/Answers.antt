use Rattle.btree_range_set.proofs.GapLemmas.{gaps-are}
use Rattle.btree_range_set.proofs.set.RangeSet.gaps.Goals as goal

pub returns : goal.returns
returns g c =
    let given = c.overlapping.ensures in
    rw given.ranges (gaps-are c.args.self.now.ranges c.args.start c.args.end given.runs)
