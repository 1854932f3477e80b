use Rattle.btree_map.proofs.EntryLemmas.{found-writes}
use Rattle.btree_map.proofs.map.BTreeMap.entry.Goals as goal

pub returns-in-Ok-clause-writes : goal.returns-in-Ok-clause-writes
returns-in-Ok-clause-writes g c w =
    found-writes g.K.Ord.cmp g.met.K.Ord.total c.args.self.now c.args.key c.in-Ok.at c.in-Ok.ensures w
