use Rattle.btree_node.proofs.Common.{arith, refl, length-map}
use Rattle.btree_node.proofs.NodeSizes.{fits-internal}
use Rattle.btree_node.proofs.node.Node.separators.Goals as goal

pub separators-requires : goal.separators-requires
separators-requires g c =
    let within = rw c.in-Internal.is at c.requires in
    let bound = within refl in
    let same = length-map c.in-Internal.node.branches (λ b. b.0) in
    (search fits-internal, omega arith)
