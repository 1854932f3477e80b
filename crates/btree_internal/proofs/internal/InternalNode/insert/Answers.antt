use Rattle.btree_internal.proofs.BranchLemmas.{long_as_branches, insert-view}
use Rattle.btree_internal.proofs.InternalSizes.{fits-slots}
use Rattle.btree_internal.proofs.internal.InternalNode.insert.Goals as goal
use Rattle.btree_internal.proofs.Common.{common_steps, arith}

pub returns : goal.returns
returns g c = insert-view c.args.self.now _ c.self.inside.first c.self.inside.branches c.self.view_is _ _ _ _ c.unwrap.ensures.value c.insert.ensures

pub unwrap-requires : goal.unwrap-requires
unwrap-requires g c = grind (arith, common_steps) steps 2000000

pub insert-requires : goal.insert-requires
insert-requires g c =
    let long = long_as_branches c.args.self.now _ c.self.inside.first c.self.inside.branches c.self.view_is in
    let low = rw c.unwrap.ensures.value at c.requires.within in
    (search fits-slots, (omega (arith, long, low), omega (arith, long, c.requires.room)))
