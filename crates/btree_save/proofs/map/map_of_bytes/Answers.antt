use Rattle.btree_save.proofs.map.map_of_bytes.Goals as goal

pub note_fits-requires : goal.note_fits-requires
note_fits-requires g c = c.requires

pub map_in_store-requires-clause-fits : goal.map_in_store-requires-clause-fits
map_in_store-requires-clause-fits g c = c.requires

pub map_in_store-requires-clause-empty : goal.map_in_store-requires-clause-empty
map_in_store-requires-clause-empty g c = c.unused.ensures.content

pub map_in_store-requires-clause-unused : goal.map_in_store-requires-clause-unused
map_in_store-requires-clause-unused g c = c.unused.ensures.reached

pub returns-clause-saved : goal.returns-clause-saved
returns-clause-saved g c = c.map_in_store.ensures.saved

pub returns-clause-refused : goal.returns-clause-refused
returns-clause-refused g c = c.map_in_store.ensures.refused

pub returns-clause-opens : goal.returns-clause-opens
returns-clause-opens g c = c.map_in_store.ensures.opens

pub returns-clause-uncounted : goal.returns-clause-uncounted
returns-clause-uncounted g c = rw c.unused.ensures.refusals at c.map_in_store.ensures.uncounted
