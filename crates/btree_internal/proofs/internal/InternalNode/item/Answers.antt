use Rattle.btree_internal.proofs.BranchLemmas.{items_are, item-at}
use Rattle.btree_internal.proofs.internal.InternalNode.item.Goals as goal

pub returns-in-Some-get : goal.returns-in-Some-get
returns-in-Some-get g c = item-at c.self.inside.branches _ c.in-Some.index _ _ (items_are c.args.self.now _ c.self.inside.first c.self.inside.branches c.self.view_is) c.in-Some.ensures.value c.in-Some-get.ensures

pub returns-in-None-get : goal.returns-in-None-get
returns-in-None-get g c = item-at c.self.inside.branches _ c.in-Some.index _ _ (items_are c.args.self.now _ c.self.inside.first c.self.inside.branches c.self.view_is) c.in-Some.ensures.value c.in-None-get.ensures
