use Rattle.btree_map.proofs.Common.{IfSome, subst, IsLastPair}
use Rattle.btree_map.proofs.AscendingLemmas.{goes-last}
use Rattle.btree_map.proofs.extension.is_above.Goals as goal

pub returns-in-Some : goal.returns-in-Some
returns-in-Some g c =
    let s = c.args.map.now in
    let last = subst (λ o. IfSome o (IsLastPair s)) c.in-Some.is c.requires in
    goes-last g.K.Ord.cmp c.args.key.now s c.in-Some.at last (c.pair_at.result.0.now, c.pair_at.result.1.now) c.pair_at.ensures
    c.args.last c.in-Some.is c.cmp.result c.cmp.ensures c.eq.result c.eq.ensures
