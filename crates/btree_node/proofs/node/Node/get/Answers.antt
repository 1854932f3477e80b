use Rattle.btree_node.proofs.NodeSizes.{fits-internal, fits-leaf}
use Rattle.btree_node.proofs.Common.{Ok, ap, sym, ◌∙◌}
use Rattle.btree_node.proofs.LookUpLemmas.{looked_up-leaf}
use Rattle.btree_node.proofs.node.Node.get.Goals as goal

pub get-requires : goal.get-requires
get-requires g c = (search fits-internal, rw c.in-Internal.is at c.requires)

pub get-requires-in-Leaf : goal.get-requires-in-Leaf
get-requires-in-Leaf g c = (search fits-leaf, rw c.in-Leaf.is at c.requires)

pub returns-in-Leaf : goal.returns-in-Leaf
returns-in-Leaf g c = rw c.in-Leaf.is (ap (λ o. Ok o) c.get-in-Leaf.ensures ∙ sym (looked_up-leaf _))
