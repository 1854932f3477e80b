-- A store over the heap may cross threads where its values may.
use denote.RattleType.{RattleType}
use denote.Param.Send.{IsSend, IsSync, sendable}
use Rattle.std.specs.contracts.alloc.Global as Heap
use Rattle.std.specs.contracts.impls.GlobalAllocator.TheImpl.{ghosts}
use Rattle.std.proofs.Crossing.{Vec-send, Vec-sync}
use Rattle.slab.specs.contracts.Slab as Slab
use Rattle.slab.specs.contracts.Entry as Entry
use Rattle.btree_steps.proofs.Crossing.{Steps-send, Steps-sync}
use Rattle.btree_store.specs.contracts.slab_store.SlabStore as Store

module _ (T : RattleType) where
  Entry-send : IsSend T → IsSend (Entry.the_row T)
  Entry-send sent = search sendable depth 20

  Entry-sync : IsSync T → IsSync (Entry.the_row T)
  Entry-sync shared = search sendable depth 20

  Slab-send : IsSend T → IsSend (Slab.the_row T Heap.the_row ghosts)
  Slab-send sent = let entries = Vec-send (Entry.the_row T) (Entry-send sent) in search sendable depth 20

  Slab-sync : IsSync T → IsSync (Slab.the_row T Heap.the_row ghosts)
  Slab-sync shared = let entries = Vec-sync (Entry.the_row T) (Entry-sync shared) in search sendable depth 20

  pub Store-send : IsSend T → IsSend (Store.the_field T Heap.the_row ghosts).row
  Store-send sent = let slab = Slab-send sent in let steps = Steps-send in search sendable depth 20

  pub Store-sync : IsSync T → IsSync (Store.the_field T Heap.the_row ghosts).row
  Store-sync shared = let slab = Slab-sync shared in let steps = Steps-sync in search sendable depth 20

pub ruleset crosses = (Store-send, Store-sync)
