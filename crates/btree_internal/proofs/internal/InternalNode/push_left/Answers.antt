use Rattle.btree_internal.proofs.BranchLemmas.{long_as_branches}
use Rattle.btree_internal.proofs.Common.{arith, refl}
use Rattle.btree_internal.proofs.InternalSizes.{fits-slots}
use Rattle.btree_internal.proofs.internal.InternalNode.push_left.Goals as goal

pub insert-requires : goal.insert-requires
insert-requires g c =
    let long = long_as_branches c.args.self.now _ c.self.inside.first c.self.inside.branches c.self.view_is in
    (search fits-slots, (omega arith, omega (arith, long, c.requires)))

pub returns : goal.returns
returns g c = rw (← c.self.view_is, c.insert.ensures) refl
