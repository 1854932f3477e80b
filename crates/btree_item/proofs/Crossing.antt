-- Slots and items may cross threads where their keys and values may.
use denote.RattleType.{RattleType}
use denote.Plain.{Nothing}
use denote.Param.Send.{IsSend, IsSync, sendable}
use Rattle.std.specs.contracts.option.Option as Opt
use Rattle.arrayvec.specs.contracts.array_vec.ArrayVec as ArrayVec
use Rattle.arrayvec.specs.contracts.cells.Cells as Cells
use Rattle.btree_item.specs.contracts.item.Item as Item
use Rattle.btree_item.specs.contracts.slots.Slots as Slots

module _ (T N A : RattleType) where
  Cells-send : IsSend T → IsSend (Cells.the_row T N)
  Cells-send sent = search sendable depth 20

  Cells-sync : IsSync T → IsSync (Cells.the_row T N)
  Cells-sync shared = search sendable depth 20

  ArrayVec-send : IsSend T → IsSend A → IsSend (ArrayVec.the_row T N A)
  ArrayVec-send sent allocator = let cells = Cells-send sent in search sendable depth 20

  ArrayVec-sync : IsSync T → IsSync A → IsSync (ArrayVec.the_row T N A)
  ArrayVec-sync shared allocator = let cells = Cells-sync shared in search sendable depth 20

module _ (T N : RattleType) where
  Places-send : IsSend T → IsSend (ArrayVec.the_row (Opt.the_row T) N Nothing)
  Places-send sent = ArrayVec-send (Opt.the_row T) N Nothing (search sendable depth 20) (search sendable)

  Places-sync : IsSync T → IsSync (ArrayVec.the_row (Opt.the_row T) N Nothing)
  Places-sync shared = ArrayVec-sync (Opt.the_row T) N Nothing (search sendable depth 20) (search sendable)

  pub Slots-send : IsSend T → IsSend (Slots.the_row T N)
  Slots-send sent = let places = Places-send sent in search sendable depth 20

  pub Slots-sync : IsSync T → IsSync (Slots.the_row T N)
  Slots-sync shared = let places = Places-sync shared in search sendable depth 20

module _ (K V : RattleType) where
  pub Item-send : IsSend K → IsSend V → IsSend (Item.the_row K V)
  Item-send keys values = search sendable depth 20

  pub Item-sync : IsSync K → IsSync V → IsSync (Item.the_row K V)
  Item-sync keys values = search sendable depth 20
