use Rattle.btree_range_map.proofs.Common.{◌∙◌, ap, sym}
use Rattle.std.specs.Prelude.{map}
use Rattle.btree_range_map.specs.Updates.{part_between}
use Rattle.btree_range_map.proofs.UpdateLemmas.{first-part}
use Rattle.btree_range_map.proofs.updates.first_part.Goals as goal

pub returns-in-Some-clause-some : goal.returns-in-Some-clause-some
returns-in-Some-clause-some g c =
    let given = c.overlapping.ensures in
    rw (c.max-low.ensures, c.min-high.ensures)
    (first-part c.args.start c.args.end 0 c.args.map.now.ranges given.runs.ascend _ _
    (ap (map (part_between c.args.start c.args.end)) (sym given.ranges ∙ c.in-Some.ensures.steps)))

pub returns-in-None-clause-none : goal.returns-in-None-clause-none
returns-in-None-clause-none g c = ap (map (part_between c.args.start c.args.end)) (sym c.overlapping.ensures.ranges ∙ c.in-None.ensures.steps.0)
