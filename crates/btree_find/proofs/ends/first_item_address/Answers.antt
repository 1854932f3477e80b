use Rattle.btree_find.proofs.Common.{◌∙◌, arith, sym}
use Rattle.btree_find.proofs.EndsLemmas.{first-item-is, first-item-none, root-used}
use Rattle.btree_find.proofs.WalkLemmas.{address-is}
use Rattle.btree_find.proofs.ends.first_item_address.Goals as goal

pub returns-in_default : goal.returns-in_default
returns-in_default g c = first-item-none g.K.Ord.cmp g.met.K.Ord.total c.args.tree.now c.requires.tree (sym c.root_id.ensures ∙ c.in_default.is)

pub leftmost_leaf-requires-clause-used : goal.leftmost_leaf-requires-clause-used
leftmost_leaf-requires-clause-used g c = root-used g.K.Ord.cmp g.met.K.Ord.total c.args.tree.now c.requires.tree c.in-Some.root (sym c.root_id.ensures ∙ c.in-Some.is)

pub returns : goal.returns
returns g c =
    first-item-is g.K.Ord.cmp g.met.K.Ord.total c.args.tree.now c.requires.tree c.in-Some.root (sym c.root_id.ensures ∙ c.in-Some.is) c.leftmost_leaf.result c.leftmost_leaf.ensures c.new.result
    (address-is c.new.result c.leftmost_leaf.result 0 c.from.result (omega arith) c.from.ensures c.new.ensures)
