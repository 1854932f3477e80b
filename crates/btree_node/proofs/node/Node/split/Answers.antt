use Rattle.btree_node.proofs.NodeSizes.{fits-internal, fits-leaf}
use Rattle.btree_node.proofs.Common.{sym, ◌∙◌, length-map}
use Rattle.btree_node.proofs.SplitSizes.{size-split_internal, size-split_leaf}
use Rattle.btree_node.proofs.node.Node.split.Goals as goal

pub split-left-requires : goal.split-left-requires
split-left-requires g c = let fits = c.well_formed in (search fits-internal, rw c.in-Internal.is at c.requires)

pub split-left-requires-in-Leaf : goal.split-left-requires-in-Leaf
split-left-requires-in-Leaf g c = let fits = c.well_formed in (search fits-leaf, rw c.in-Leaf.is at c.requires)

pub returns-in-Internal-clause-left : goal.returns-in-Internal-clause-left
returns-in-Internal-clause-left g c = c.split-left.ensures.left ∙ sym (size-split_internal c.in-Internal.node _ _ _ c.split-left.ensures.parts)

pub returns-in-Internal-clause-right : goal.returns-in-Internal-clause-right
returns-in-Internal-clause-right g c = length-map _ (λ b. b.0) ∙ c.split-left.ensures.right

pub returns-in-Leaf-clause-left : goal.returns-in-Leaf-clause-left
returns-in-Leaf-clause-left g c = c.split-left-in-Leaf.ensures.left ∙ sym (size-split_leaf c.in-Leaf.leaf _ _ _ c.split-left-in-Leaf.ensures.parts)
