use Rattle.btree_range_map.proofs.Common.{nat_cmp}
use Rattle.btree_map.specs.Lists.{last_place}
use Rattle.btree_range_map.proofs.RemovalLemmas.{popped-cleared, popped-runs}
use Rattle.btree_range_map.proofs.map.RangeMap.pop_last.Goals as goal

pub invariant_of-self : goal.invariant_of-self
invariant_of-self g c =
    let pop = c.pop_last.ensures in
    (popped-runs c.self.inside.map c.pop_last.new.self nat_cmp (last_place c.self.inside.map) _ pop.pair pop.removed pop.unchanged c.self.invariant.0, c.self.invariant.1, c.self.invariant.2)

pub returns-clause-cleared : goal.returns-clause-cleared
returns-clause-cleared g c =
    let pop = c.pop_last.ensures in
    rw (← c.self.view_is) (popped-cleared c.self.inside.map c.pop_last.new.self nat_cmp (last_place c.self.inside.map) _ pop.pair pop.removed c.self.invariant.0)
