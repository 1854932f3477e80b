use Rattle.btree_owned_walk.proofs.Common.{arith}
use Rattle.btree_owned_walk.proofs.LeavingLemmas.{new-leaving}
use Rattle.btree_owned_walk.proofs.walk.OwnedWalk.new.Goals as goal

pub invariant_of-result : goal.invariant_of-result
invariant_of-result g c =
    new-leaving g.K.Ord.cmp c.args.tree c.requires c.of-start.result.value c.of-start.ensures c.new.result.count c.new.ensures c.len-left.result c.len-left.ensures
    c.root_id.result c.root_id.ensures c.unwrap_or-root.result c.unwrap_or-root.ensures (omega (arith, c.len-left.type_inv))
