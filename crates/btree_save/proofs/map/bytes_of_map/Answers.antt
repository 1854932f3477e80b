use Rattle.btree_save.proofs.map.bytes_of_map.Goals as goal

pub bytes_of-requires : goal.bytes_of-requires
bytes_of-requires g c = rw c.as_raw.ensures.value c.as_raw.ensures.well_formed

pub returns-clause-saved : goal.returns-clause-saved
returns-clause-saved g c = rw c.as_raw.ensures.value at c.bytes_of.ensures.saved

pub returns-clause-only : goal.returns-clause-only
returns-clause-only g c = rw c.as_raw.ensures.value at c.bytes_of.ensures.only
