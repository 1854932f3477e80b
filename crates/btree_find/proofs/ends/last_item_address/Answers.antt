use Rattle.btree_find.proofs.Common.{◌-◌, ◌∙◌, arith, sym}
use Rattle.btree_find.proofs.EndsLemmas.{last-item-is, last-item-none, root-used}
use Rattle.btree_find.proofs.PreviousLemmas.{few-last, some-last}
use Rattle.btree_find.proofs.WalkLemmas.{address-is}
use Rattle.btree_find.proofs.ends.last_item_address.Goals as goal

pub returns-in_default : goal.returns-in_default
returns-in_default g c = last-item-none g.K.Ord.cmp g.met.K.Ord.total c.args.tree.now c.requires.tree (sym c.root_id.ensures ∙ c.in_default.is)

pub rightmost_leaf-leaf-requires-clause-used : goal.rightmost_leaf-leaf-requires-clause-used
rightmost_leaf-leaf-requires-clause-used g c = root-used g.K.Ord.cmp g.met.K.Ord.total c.args.tree.now c.requires.tree c.in-Some.root (sym c.root_id.ensures ∙ c.in-Some.is)

pub overflow_sub-count : goal.overflow_sub-count
overflow_sub-count g c = let l = some-last g.K.Ord.cmp g.met.K.Ord.total c.args.tree.now c.requires.tree c.in-Some.root c.rightmost_leaf-leaf.result c.rightmost_leaf-leaf.ensures in omega arith

pub returns : goal.returns
returns g c =
    let l = some-last g.K.Ord.cmp g.met.K.Ord.total c.args.tree.now c.requires.tree c.in-Some.root c.rightmost_leaf-leaf.result c.rightmost_leaf-leaf.ensures in
    let h = few-last g.K.Ord.cmp g.met.K.Ord.total c.args.tree.now c.requires.tree c.in-Some.root c.rightmost_leaf-leaf.result c.rightmost_leaf-leaf.ensures in
    last-item-is g.K.Ord.cmp g.met.K.Ord.total c.args.tree.now c.requires.tree c.in-Some.root (sym c.root_id.ensures ∙ c.in-Some.is) c.rightmost_leaf-leaf.result c.rightmost_leaf-leaf.ensures c.new.result (c.rightmost_leaf-leaf.result.1 - 1) (omega arith)
    (address-is c.new.result c.rightmost_leaf-leaf.result.0 (c.rightmost_leaf-leaf.result.1 - 1) c.from.result (omega arith) c.from.ensures c.new.ensures)
