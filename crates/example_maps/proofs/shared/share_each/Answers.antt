use denote.Param.Send.{sendable}
use Rattle.btree_slab.proofs.Crossing.{crosses}
use Rattle.example_maps.proofs.shared.share_each.Goals as goal

pub share-requires-sync-T : goal.share-requires-sync-T
share-requires-sync-T c κs = search (crosses, sendable) depth 40

pub share-requires-2-sync-T : goal.share-requires-2-sync-T
share-requires-2-sync-T c κs = search (crosses, sendable) depth 40

pub share-requires-3-sync-T : goal.share-requires-3-sync-T
share-requires-3-sync-T c κs = search (crosses, sendable) depth 40

pub share-requires-4-sync-T : goal.share-requires-4-sync-T
share-requires-4-sync-T c κs = search (crosses, sendable) depth 40

pub share-requires-5-sync-T : goal.share-requires-5-sync-T
share-requires-5-sync-T c κs = search (crosses, sendable) depth 40
