use Rattle.btree_node.specs.Node.{view_of}
use Rattle.btree_view.specs.View.{items_of}
use Rattle.btree_image.proofs.Put.{HasPut}
use Rattle.btree_spelled.specs.Pairs.{pair_bytes}
use Rattle.btree_image.specs.Reading.{item_at}
use Rattle.btree_image.proofs.writing.put_items.Given as goal

abbrev pub invariant-loop-i : goal.invariant-loop-i
invariant-loop-i g l =
    HasPut (item_at g.K.Spelled.read g.V.Spelled.read) (pair_bytes g.K.Spelled.spelling g.V.Spelled.spelling)
    (items_of (view_of l.node)) l.initial.out.items l.out.items l.i
