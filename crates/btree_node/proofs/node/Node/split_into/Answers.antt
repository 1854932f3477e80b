use Rattle.btree_node.proofs.NodeSizes.{fits-internal, fits-leaf}
use Rattle.btree_node.proofs.Common.{ap, sym, ◌∙◌, length-map, view_of, size_of}
use Rattle.btree_node.proofs.SplitSizes.{size-split_internal}
use Rattle.btree_node.proofs.node.Node.split_into.Goals as goal

pub split-left-requires : goal.split-left-requires
split-left-requires g c = let fits = c.well_formed in (search fits-internal, rw c.in-Internal.is at c.requires.over)

pub split_into-requires : goal.split_into-requires
split_into-requires g c =
    let fits = c.well_formed in (
      search fits-leaf,
      (rw c.in-Leaf.is at c.requires.over, rw c.in-Leaf-part.is at c.requires.empty),
    )

pub returns-in-Internal-clause-parts : goal.returns-in-Internal-clause-parts
returns-in-Internal-clause-parts g c = rw (c.in-Internal.is, c.replace.ensures.after) c.split-left.ensures.parts

pub returns-in-Internal-clause-left : goal.returns-in-Internal-clause-left
returns-in-Internal-clause-left g c = c.split-left.ensures.left ∙ sym (size-split_internal c.in-Internal.node _ _ _ c.split-left.ensures.parts)

pub returns-in-Internal-clause-right : goal.returns-in-Internal-clause-right
returns-in-Internal-clause-right g c = ap (λ n. size_of (view_of n)) c.replace.ensures.after ∙ length-map _ (λ b. b.0) ∙ c.split-left.ensures.right

pub unreachable-requires : goal.unreachable-requires
unreachable-requires g c = let bad = rw c.in-Internal-part.is at c.requires.leaf in cc

pub returns-in-Leaf-part-clause-parts : goal.returns-in-Leaf-part-clause-parts
returns-in-Leaf-part-clause-parts g c = rw c.in-Leaf.is c.split_into.ensures.parts

pub returns-in-Leaf-part-clause-right : goal.returns-in-Leaf-part-clause-right
returns-in-Leaf-part-clause-right g c = c.split_into.ensures.right
