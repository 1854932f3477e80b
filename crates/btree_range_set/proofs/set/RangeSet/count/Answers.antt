use Rattle.btree_range_set.proofs.Common.{◌∙◌}
use Rattle.std.specs.Prelude.{◌-◌}
use Rattle.btree_range_set.specs.CountLaws.{count-most}
use Rattle.btree_range_set.specs.Ranges.{has_number, meets}
use Rattle.btree_range_set.proofs.CountLemmas.{counts-meeting}
use Rattle.btree_range_set.proofs.GapLemmas.{runs-filtered}
use Rattle.btree_range_set.proofs.set.RangeSet.count.Goals as goal

pub count_in-requires : goal.count_in-requires
count_in-requires g c = rw c.overlapping.ensures.ranges (runs-filtered (meets c.args.start c.args.end) 0 c.args.self.now.ranges c.overlapping.ensures.runs)

pub returns-clause-value : goal.returns-clause-value
returns-clause-value g c = rw c.overlapping.ensures.ranges at c.count_in.ensures ∙ counts-meeting c.args.self.now.ranges c.args.start c.args.end

pub returns-clause-most : goal.returns-clause-most
returns-clause-most g c =
    let value = rw c.overlapping.ensures.ranges at c.count_in.ensures ∙ counts-meeting c.args.self.now.ranges c.args.start c.args.end in
    rw value (count-most (has_number c.args.self.now.ranges) c.args.start (c.args.end - c.args.start))
