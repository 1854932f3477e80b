use Rattle.std.proofs.Common.{◌≡◌, length}
use Rattle.btree_node.specs.Node.{view_of}
use Rattle.btree_view.specs.View.{items_of}
use Rattle.btree_view.specs.View.{leaf}
use Rattle.btree_image.specs.Reading.{item_at}
use Rattle.btree_image.proofs.Loop.{HasRead}
use Rattle.btree_image.proofs.reading.read_items.Given as goal

abbrev pub invariant-loop : goal.invariant-loop
invariant-loop g l =
    (view_of l.node ≡ leaf l.fn.parent (items_of (view_of l.node)))
    × (length (items_of (view_of l.node)) ≡ l.counter)
    × HasRead (λ left. item_at g.K.Spelled.read g.V.Spelled.read) l.count l.bytes (items_of (view_of l.node)) l.counter l.rest
