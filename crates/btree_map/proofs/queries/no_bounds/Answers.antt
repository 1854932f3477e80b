use Rattle.btree_map.proofs.Common.{pairs_of}
use Rattle.btree_map.proofs.QueryLemmas.{none-beside, none-first}
use Rattle.btree_map.proofs.queries.no_bounds.Goals as goal

pub returns-in-Some-clause-empty : goal.returns-in-Some-clause-empty
returns-in-Some-clause-empty g c = none-beside g.K.Ord.cmp c.in-Some.key.now (pairs_of c.args.map.now)

pub returns-in-None-clause-empty : goal.returns-in-None-clause-empty
returns-in-None-clause-empty g c = none-first g.K.Ord.cmp (pairs_of c.args.map.now) c.in-None.ensures
