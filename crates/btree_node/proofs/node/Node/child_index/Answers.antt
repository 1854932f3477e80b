use Rattle.btree_node.proofs.NodeSizes.{fits-internal}
use Rattle.btree_node.proofs.node.Node.child_index.Goals as goal
use Rattle.btree_node.proofs.Common.{length-map, ◌≡◌, ℕ, ◌<◌, Option, Some, None, arith, refl, rules}
use Rattle.std.proofs.Common.{◌≤◌, IfSome, suc}

below-next : (o : Option ℕ) (m n : ℕ) → m ≡ n → IfSome o (λ i. i ≤ n) → IfSome o (λ i. i < suc m)
below-next None m n same low = tt
below-next (Some i) m n same low = omega arith

pub child_index-requires : goal.child_index-requires
child_index-requires g c = search fits-internal

pub returns-in-Internal-clause-value : goal.returns-in-Internal-clause-value
returns-in-Internal-clause-value g c = search rules steps 200000

pub returns-in-Leaf-clause-within : goal.returns-in-Leaf-clause-within
returns-in-Leaf-clause-within g c = search rules steps 200000

pub returns-in-Internal-clause-within : goal.returns-in-Internal-clause-within
returns-in-Internal-clause-within g c = rw c.in-Internal.is (below-next c.child_index.result _ _ (length-map c.in-Internal.node.branches (λ b. b.1)) c.child_index.ensures.within)

pub returns-in-Leaf-clause-value : goal.returns-in-Leaf-clause-value
returns-in-Leaf-clause-value g c = rw c.in-Leaf.is refl
