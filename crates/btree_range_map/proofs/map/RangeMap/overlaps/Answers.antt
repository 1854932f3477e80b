use Rattle.btree_range_map.proofs.MeetLemmas.{first-tells}
use Rattle.btree_range_map.proofs.map.RangeMap.overlaps.Goals as goal

pub returns-clause-some : goal.returns-clause-some
returns-clause-some g c = λ yes.
    (first-tells c.args.start c.args.end c.args.self.now.ranges _ _ c.next.result c.overlapping.ensures.ranges c.next.ensures.steps c.is_some.result c.is_some.ensures).0 yes

pub returns-clause-none : goal.returns-clause-none
returns-clause-none g c = λ no.
    (first-tells c.args.start c.args.end c.args.self.now.ranges _ _ c.next.result c.overlapping.ensures.ranges c.next.ensures.steps c.is_some.result c.is_some.ensures).1 no
