use Rattle.btree_range_map.proofs.map.RangeMap.store.Goals as goal

pub returns-clause-content : goal.returns-clause-content
returns-clause-content g c = (c.self.inside.map, c.tell_well_formed.ensures.well_formed, c.self.view_is, c.store.ensures.content)
