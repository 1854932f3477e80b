use Rattle.btree_range_map.proofs.Common.{◌≡◌, ◌∙◌, ap, arith, nat_cmp, pairs_of, ranges_meeting}
use Rattle.std.specs.BTreeMap.Range.{entries_between}
use Rattle.std.specs.declared.ops.Bound.TheVariants.{Excluded, Included}
use Rattle.btree_range_map.proofs.MeetLemmas.{meeting-around, meeting-empty, meeting-none}
use Rattle.btree_range_map.proofs.map.RangeMap.overlapping.Goals as goal
use Rattle.btree_range_map.proofs.map.RangeMap.overlapping.Goals.{in-Some, in-None}

pub returns-then-end-start-clause-ranges : goal.returns-then-end-start-clause-ranges
returns-then-end-start-clause-ranges g c =
    let xs = pairs_of c.self.inside.map in
    let start = c.args.start in
    let end = c.args.end in
    c.range.ensures ∙ meeting-empty xs c.self.invariant.0 start end (omega (arith, c.if-end-start.true)) ∙ ap (λ s. ranges_meeting start end s.ranges) c.self.view_is

pub returns-clause-ranges : goal.returns-clause-ranges
returns-clause-ranges g c =
    let xs = pairs_of c.self.inside.map in
    let start = c.args.start in
    let end = c.args.end in
    let some = c.if-end-start.false in
    let from_first : entries_between nat_cmp (Included c.match-range_around.first) (Excluded end) xs ≡ ranges_meeting start end xs =
    elim c.match-range_around.branch [
      | in-Some w ↦ ap (λ f. entries_between nat_cmp (Included f) (Excluded end) xs) w.first-is ∙ meeting-around xs c.self.invariant.0 start end _ w.in-Some.ensures.around some
      | in-None w ↦ ap (λ f. entries_between nat_cmp (Included f) (Excluded end) xs) w.first-is ∙ meeting-none xs c.self.invariant.0 start end w.in-None.ensures.none some
    ] in
    c.range-2.ensures ∙ from_first ∙ ap (λ s. ranges_meeting start end s.ranges) c.self.view_is
