use Rattle.btree_range_map.proofs.Common.{refl}
use Rattle.btree_range_map.proofs.PlaceLemmas.{clone-same}
use Rattle.std.proofs.lemmas.Result.{err_from_is_err_and}
use Rattle.btree_range_map.proofs.map.RangeMap.clone.Goals as goal

pub returns-in_err-clone-clause-may_fail : goal.returns-in_err-clone-clause-may_fail
returns-in_err-clone-clause-may_fail g c =
    let e = err_from_is_err_and c.from_residual.result c.from_residual.ensures.1 in
    let map = c.self.inside.map in
    rw e.1 (map.nodes, (map, c.tell_well_formed.ensures.well_formed, c.self.view_is, refl), c.in_err-clone.ensures.may_fail)

pub clone-requires-clause-values : goal.clone-requires-clause-values
clone-requires-clause-values g c = λ x copy is. clone-same _ c.self.invariant.2 x copy is
