use Rattle.btree_internal.proofs.Common.{Some, arith, refl, sym}
use Rattle.btree_internal.proofs.BranchLemmas.{child-after}
use Rattle.btree_internal.proofs.internal.child_id_among.Goals as goal

pub returns-else-index-eq0 : goal.returns-else-index-eq0
returns-else-index-eq0 g c =
    let apart = c.if-index-eq0.false in
    sym (child-after c.args.first c.args.index c.args.branches.now (Some c.branch_at.result.now) _ (omega arith) refl (sym c.branch_at.ensures))
