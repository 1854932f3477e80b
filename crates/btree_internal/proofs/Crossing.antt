-- An internal node may cross threads where its keys and values may.
use denote.RattleType.{RattleType}
use denote.Param.Send.{IsSend, IsSync, sendable}
use Rattle.btree_item.proofs.Crossing.{Item-send, Item-sync, Slots-send, Slots-sync}
use Rattle.btree_internal.specs.contracts.internal.Branch as Branch
use Rattle.btree_internal.specs.contracts.internal.InternalNode as Internal

module _ (K V : RattleType) where
  Branch-send : IsSend K → IsSend V → IsSend (Branch.the_row K V)
  Branch-send keys values = let item = Item-send K V keys values in search sendable depth 20

  Branch-sync : IsSync K → IsSync V → IsSync (Branch.the_row K V)
  Branch-sync keys values = let item = Item-sync K V keys values in search sendable depth 20

  pub Internal-send : IsSend K → IsSend V → IsSend (Internal.the_row K V)
  Internal-send keys values = let branch = Branch-send keys values in search (Slots-send, sendable) depth 20

  pub Internal-sync : IsSync K → IsSync V → IsSync (Internal.the_row K V)
  Internal-sync keys values = let branch = Branch-sync keys values in search (Slots-sync, sendable) depth 20
