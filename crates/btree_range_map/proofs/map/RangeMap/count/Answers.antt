use Rattle.btree_range_map.proofs.Common.{◌∙◌, arith, meets}
use Rattle.std.specs.Prelude.{◌-◌}
use Rattle.btree_range_set.specs.CountLaws.{count-most}
use Rattle.btree_range_map.specs.Ranges.{has_value}
use Rattle.btree_range_map.proofs.CountLemmas.{counts-meeting}
use Rattle.btree_range_map.proofs.GapLemmas.{ascend-filtered}
use Rattle.btree_range_map.proofs.map.RangeMap.count.Goals as goal

pub count_in-requires : goal.count_in-requires
count_in-requires g c =
    rw c.overlapping.ensures.ranges (omega arith, ascend-filtered (meets c.args.start c.args.end) 0 c.args.self.now.ranges c.overlapping.ensures.runs.ascend)

pub returns-clause-value : goal.returns-clause-value
returns-clause-value g c = rw c.overlapping.ensures.ranges at c.count_in.ensures ∙ counts-meeting c.args.self.now.ranges c.args.start c.args.end

pub returns-clause-most : goal.returns-clause-most
returns-clause-most g c =
    let value = rw c.overlapping.ensures.ranges at c.count_in.ensures ∙ counts-meeting c.args.self.now.ranges c.args.start c.args.end in
    rw value (count-most (has_value c.args.self.now.ranges) c.args.start (c.args.end - c.args.start))
