use Rattle.btree_set.proofs.Common.{subst, SetState}
use Rattle.std.proofs.lemmas.Result.{err_from_is_err_and}
use Rattle.btree_set.proofs.set.BTreeSet.clone.Goals as goal

pub returns-in_err-clone-clause-may_fail : goal.returns-in_err-clone-clause-may_fail
returns-in_err-clone-clause-may_fail g c =
    let e = err_from_is_err_and c.from_residual.result c.from_residual.ensures.1 in
    rw e.1
    (subst (λ (s : SetState g.row.T.Denot). g.C.CloneNodes.MayFail s.tree.nodes) c.self.view_is c.in_err-clone.ensures.may_fail)
