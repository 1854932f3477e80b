-- A table, and a store over the heap that is filled under chosen numbers, may cross threads where their values may.
use denote.RattleType.{RattleType}
use denote.Plain.{Nothing}
use denote.Param.Send.{IsSend, IsSync, sendable}
use Rattle.std.specs.contracts.alloc.Global as Heap
use Rattle.std.specs.contracts.impls.GlobalAllocator.TheImpl.{ghosts}
use Rattle.std.specs.contracts.option.Option as Opt
use Rattle.std.proofs.Crossing.{Vec-send, Vec-sync}
use Rattle.arrayvec.specs.contracts.array_vec.ArrayVec as ArrayVec
use Rattle.arrayvec.specs.contracts.cells.Cells as Cells
use Rattle.btree_steps.proofs.Crossing.{Steps-send, Steps-sync}
use Rattle.btree_more_stores.specs.contracts.fixed_slab.FixedSlab as Fixed
use Rattle.btree_more_stores.specs.contracts.fixed_slab.FixedSlab.TheInside as Inside
use Rattle.btree_more_stores.specs.contracts.slot_store.SlotStore as Slots

module _ (T N A : RattleType) where
  Cells-send : IsSend T → IsSend (Cells.the_row T N)
  Cells-send sent = search sendable depth 20

  Cells-sync : IsSync T → IsSync (Cells.the_row T N)
  Cells-sync shared = search sendable depth 20

  ArrayVec-send : IsSend T → IsSend A → IsSend (ArrayVec.the_row T N A)
  ArrayVec-send sent allocator = let cells = Cells-send sent in search sendable depth 20

  ArrayVec-sync : IsSync T → IsSync A → IsSync (ArrayVec.the_row T N A)
  ArrayVec-sync shared allocator = let cells = Cells-sync shared in search sendable depth 20

module _ (T N : RattleType) where
  Places-send : IsSend T → IsSend (ArrayVec.the_row (Opt.the_row T) N Nothing)
  Places-send sent = ArrayVec-send (Opt.the_row T) N Nothing (search sendable depth 20) (search sendable)

  Places-sync : IsSync T → IsSync (ArrayVec.the_row (Opt.the_row T) N Nothing)
  Places-sync shared = ArrayVec-sync (Opt.the_row T) N Nothing (search sendable depth 20) (search sendable)

  Inside-send : IsSend T → IsSend (Inside.the_row T N)
  Inside-send sent = let places = Places-send sent in let steps = Steps-send in search (ArrayVec-send, sendable) depth 20

  Inside-sync : IsSync T → IsSync (Inside.the_row T N)
  Inside-sync shared = let places = Places-sync shared in let steps = Steps-sync in search (ArrayVec-sync, sendable) depth 20

  pub Fixed-send : IsSend T → IsSend (Fixed.the_field T N).row
  Fixed-send sent = let inside = Inside-send sent in search sendable depth 20

  pub Fixed-sync : IsSync T → IsSync (Fixed.the_field T N).row
  Fixed-sync shared = let inside = Inside-sync shared in search sendable depth 20

module _ (T : RattleType) where
  pub Slots-send : IsSend T → IsSend (Slots.the_field T Heap.the_row ghosts).row
  Slots-send sent = let places = Vec-send (Opt.the_row T) (search sendable depth 20) in let steps = Steps-send in search (Vec-send, sendable) depth 20

  pub Slots-sync : IsSync T → IsSync (Slots.the_field T Heap.the_row ghosts).row
  Slots-sync shared = let places = Vec-sync (Opt.the_row T) (search sendable depth 20) in let steps = Steps-sync in search (Vec-sync, sendable) depth 20

pub ruleset crosses = (Fixed-send, Fixed-sync, Slots-send, Slots-sync)
