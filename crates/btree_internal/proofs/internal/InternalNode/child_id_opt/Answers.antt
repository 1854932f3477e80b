use Rattle.btree_internal.proofs.Common.{arith}
use Rattle.btree_internal.proofs.BranchLemmas.{children_are, child-after}
use Rattle.btree_internal.proofs.internal.InternalNode.child_id_opt.Goals as goal

pub returns-in-Some : goal.returns-in-Some
returns-in-Some g c =
    let apart = c.if-index-eq0.false in
    child-after c.self.inside.first c.args.index c.self.inside.branches _ _ (omega arith) (children_are c.args.self.now _ c.self.inside.first c.self.inside.branches c.self.view_is) c.in-Some.ensures

pub returns-in-None : goal.returns-in-None
returns-in-None g c =
    let apart = c.if-index-eq0.false in
    child-after c.self.inside.first c.args.index c.self.inside.branches _ _ (omega arith) (children_are c.args.self.now _ c.self.inside.first c.self.inside.branches c.self.view_is) c.in-None.ensures
