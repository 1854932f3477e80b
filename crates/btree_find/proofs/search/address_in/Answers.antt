use Rattle.btree_find.proofs.SearchLemmas.{address-in}
use Rattle.btree_find.proofs.search.address_in.Goals as goal

pub returns : goal.returns
returns g c =
    address-in g.K.Ord.cmp c.args.key.now g.met.K.Ord.total c.args.tree.now c.requires.tree c.args.top c.requires.used
    c.search_from.result c.search_from.ensures.found
