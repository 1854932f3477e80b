use Rattle.btree_range_map.proofs.map.RangeMap.swap_map.Goals as goal

pub returns-clause-exact : goal.returns-clause-exact
returns-clause-exact g c = rw (c.if-not-are_runs.false, c.over.ensures) at c.are_runs.ensures
