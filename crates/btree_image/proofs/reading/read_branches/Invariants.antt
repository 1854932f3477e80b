use Rattle.std.proofs.Common.{◌≡◌, length}
use Rattle.btree_node.specs.Node.{view_of}
use Rattle.btree_view.specs.View.{branches_of}
use Rattle.btree_view.specs.View.{internal}
use Rattle.btree_image.specs.Reading.{branch_at}
use Rattle.btree_image.proofs.Loop.{HasRead}
use Rattle.btree_image.proofs.reading.read_branches.Given as goal

abbrev pub invariant-loop : goal.invariant-loop
invariant-loop g l =
    (view_of l.node ≡ internal l.fn.parent l.first (branches_of (view_of l.node)))
    × (length (branches_of (view_of l.node)) ≡ l.counter)
    × HasRead (λ left. branch_at g.K.Spelled.read g.V.Spelled.read) l.count l.bytes (branches_of (view_of l.node)) l.counter l.rest
