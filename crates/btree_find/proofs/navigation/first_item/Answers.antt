use Rattle.btree_find.proofs.Common.{arith}
use Rattle.btree_find.proofs.WalkLemmas.{address-is, begins-item}
use Rattle.btree_find.proofs.navigation.first_item.Goals as goal

pub returns : goal.returns
returns g c = begins-item g.K.Ord.cmp g.met.K.Ord.total c.args.tree.now c.requires.tree c.args.id c.leftmost_leaf.result c.leftmost_leaf.ensures c.new.result (address-is c.new.result c.leftmost_leaf.result 0 c.from.result (omega arith) c.from.ensures c.new.ensures)
