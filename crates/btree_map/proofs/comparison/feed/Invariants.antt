use Rattle.btree_map.proofs.Common.{◌≡◌, length}
use Rattle.std.specs.List.{fold}
use Rattle.btree_map.specs.Comparison.{hash_writes}
use Rattle.btree_map.proofs.comparison.feed.Given as goal

abbrev pub invariant-loop-key : goal.invariant-loop-key
invariant-loop-key g l =
    let writes = hash_writes g.K.Hash.hash_input g.V.Hash.hash_input in
    fold g.H.Hasher.write l.state (writes l.rest) ≡ fold g.H.Hasher.write l.initial.state (writes l.initial.rest)

abbrev pub decreases-loop-key : goal.decreases-loop-key
decreases-loop-key g l = length l.rest
