use Rattle.btree_node.proofs.Common.{sym, ◌∙◌, length-map}
use Rattle.btree_node.proofs.NodeSizes.{fits-internal, fits-leaf}
use Rattle.btree_node.proofs.RoomLemmas.{at_least}
use Rattle.btree_node.proofs.node.Node.is_full.Goals as goal

pub item_count-requires : goal.item_count-requires
item_count-requires g c = search fits-internal

pub item_count-requires-in-Leaf : goal.item_count-requires-in-Leaf
item_count-requires-in-Leaf g c = search fits-leaf

pub returns-in-Internal : goal.returns-in-Internal
returns-in-Internal g c = rw c.in-Internal.is (at_least 7 _ _ (c.item_count.ensures.value ∙ sym (length-map _ (λ b. b.0))))

pub returns-in-Leaf : goal.returns-in-Leaf
returns-in-Leaf g c = rw c.in-Leaf.is (at_least 8 _ _ c.item_count-in-Leaf.ensures.value)
