use Rattle.btree_save.proofs.OpenedLemmas.{all-read, opened-from, opens-from, refused-from, to-end, to-end-at-fault}
use Rattle.btree_save.proofs.map.open.Goals as goal

pub note_fits-requires : goal.note_fits-requires
note_fits-requires g c = c.requires

pub map_in_store-requires-clause-fits : goal.map_in_store-requires-clause-fits
map_in_store-requires-clause-fits g c = c.requires

pub map_in_store-requires-clause-empty : goal.map_in_store-requires-clause-empty
map_in_store-requires-clause-empty g c = c.unused-nodes.ensures.content

pub map_in_store-requires-clause-unused : goal.map_in_store-requires-clause-unused
map_in_store-requires-clause-unused g c = c.unused-nodes.ensures.reached

pub returns-in-Ok-clause-saved : goal.returns-in-Ok-clause-saved
returns-in-Ok-clause-saved g c =
    opened-from g.K.Spelled.read g.V.Spelled.read g.K.Ord.cmp g.C.Fill.MayLack c.deref.result.now (g.R.Read.remaining c.args.input.now)
    (all-read (g.R.Read.remaining c.args.input.now) c.new-bytes.result.items c.read_to_end.new.buf.items c.deref.result.now c.new-bytes.ensures.items c.deref.ensures.value c.in-Ok.ensures.bytes) c.map_in_store.result c.map_in_store.ensures.saved

pub returns-in-Ok-clause-refused : goal.returns-in-Ok-clause-refused
returns-in-Ok-clause-refused g c =
    refused-from g.K.Spelled.read g.V.Spelled.read g.K.Ord.cmp g.C.Fill.MayLack c.deref.result.now (g.R.Read.remaining c.args.input.now)
    (all-read (g.R.Read.remaining c.args.input.now) c.new-bytes.result.items c.read_to_end.new.buf.items c.deref.result.now c.new-bytes.ensures.items c.deref.ensures.value c.in-Ok.ensures.bytes) c.map_in_store.result c.map_in_store.ensures.refused

pub returns-in-Ok-clause-opens : goal.returns-in-Ok-clause-opens
returns-in-Ok-clause-opens g c =
    opens-from g.K.Spelled.read g.V.Spelled.read g.K.Ord.cmp g.C.Fill.MayLack c.deref.result.now (g.R.Read.remaining c.args.input.now)
    (all-read (g.R.Read.remaining c.args.input.now) c.new-bytes.result.items c.read_to_end.new.buf.items c.deref.result.now c.new-bytes.ensures.items c.deref.ensures.value c.in-Ok.ensures.bytes) c.map_in_store.result c.map_in_store.ensures.opens

pub returns-in-Ok-clause-uncounted : goal.returns-in-Ok-clause-uncounted
returns-in-Ok-clause-uncounted g c = rw c.unused-nodes.ensures.refusals at c.map_in_store.ensures.uncounted

pub returns-in-Ok-clause-end : goal.returns-in-Ok-clause-end
returns-in-Ok-clause-end g c = to-end (g.R.Read.remaining c.read_to_end.new.self) c.map_in_store.result c.in-Ok.ensures.end

pub returns-in-Ok-clause-end_at_fault : goal.returns-in-Ok-clause-end_at_fault
returns-in-Ok-clause-end_at_fault g c = to-end-at-fault (g.R.Read.remaining c.read_to_end.new.self) c.map_in_store.result c.in-Ok.ensures.end
