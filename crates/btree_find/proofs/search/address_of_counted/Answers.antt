use Rattle.btree_find.proofs.SearchLemmas.{address-of}
use Rattle.btree_find.proofs.search.address_of_counted.Goals as goal

pub returns-clause-found : goal.returns-clause-found
returns-clause-found g c = address-of g.K.Ord.cmp c.args.key.now g.met.K.Ord.total c.args.tree.now c.requires c.search.result c.search.ensures.found
