use Rattle.btree_image.proofs.CountLemmas.{HasFound}
use Rattle.btree_image.proofs.writing.count_places.Given as goal

abbrev pub invariant-loop-id : goal.invariant-loop-id
invariant-loop-id g l = HasFound l.tree.nodes l.found l.end l.id
