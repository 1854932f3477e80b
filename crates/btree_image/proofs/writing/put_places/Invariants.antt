use Rattle.btree_laws.specs.TreeState.{node_map}
use Rattle.btree_image.proofs.Whole.{HasPlaced}
use Rattle.btree_image.proofs.writing.put_places.Given as goal

abbrev pub invariant-loop-id : goal.invariant-loop-id
invariant-loop-id g l =
    HasPlaced g.K.Spelled.spelling g.V.Spelled.spelling g.K.Spelled.read g.V.Spelled.read (node_map l.tree) l.initial.out.items l.out.items l.id
