use Rattle.std.proofs.lemmas.Bool.{false≢true}
use Rattle.btree_save.proofs.OpenedLemmas.{read-opens, read-refused, tree-opens}
use Rattle.btree_save.proofs.map.map_in_store.Goals as goal

pub read_tree-requires-clause-fits : goal.read_tree-requires-clause-fits
read_tree-requires-clause-fits g c = c.requires.fits

pub read_tree-requires-clause-empty : goal.read_tree-requires-clause-empty
read_tree-requires-clause-empty g c = c.requires.empty

pub read_tree-requires-clause-unused : goal.read_tree-requires-clause-unused
read_tree-requires-clause-unused g c = c.requires.unused

pub returns-in-Ok-from_raw-clause-saved : goal.returns-in-Ok-from_raw-clause-saved
returns-in-Ok-from_raw-clause-saved g c = rw c.in-Ok-from_raw.ensures.kept c.in-Ok.ensures.saved

pub returns-in-Err-from_raw-clause-refused : goal.returns-in-Err-from_raw-clause-refused
returns-in-Err-from_raw-clause-refused g c = (c.in-Ok.raw, c.in-Ok.ensures.saved, c.in-Err-from_raw.ensures.verdict)

pub returns-in-Err-from_raw-clause-opens : goal.returns-in-Err-from_raw-clause-opens
returns-in-Err-from_raw-clause-opens g c =
    tree-opens g.K.Spelled.read g.V.Spelled.read g.K.Ord.cmp g.C.Fill.MayLack c.args.bytes.now c.in-Ok.raw c.in-Err-from_raw.fault c.in-Ok.ensures.saved (λ within. false≢true (c.in-Err-from_raw.ensures.exact.1 within))

pub returns-in-Err-clause-refused : goal.returns-in-Err-clause-refused
returns-in-Err-clause-refused g c =
    rw c.of_read.ensures (read-refused g.K.Spelled.read g.V.Spelled.read g.K.Ord.cmp g.C.Fill.MayLack c.args.bytes.now c.in-Err.error c.in-Err.ensures.refused)

pub returns-in-Err-clause-opens : goal.returns-in-Err-clause-opens
returns-in-Err-clause-opens g c =
    rw c.of_read.ensures (read-opens g.K.Spelled.read g.V.Spelled.read g.K.Ord.cmp g.C.Fill.MayLack c.args.bytes.now c.in-Err.error c.in-Err.ensures.refused)
