-- A leaf may cross threads where its keys and values may.
use denote.RattleType.{RattleType}
use denote.Param.Send.{IsSend, IsSync, sendable}
use Rattle.btree_item.proofs.Crossing.{Item-send, Item-sync, Slots-send, Slots-sync}
use Rattle.btree_leaf.specs.contracts.leaf.LeafNode as Leaf

module _ (K V : RattleType) where
  pub Leaf-send : IsSend K → IsSend V → IsSend (Leaf.the_row K V)
  Leaf-send keys values = let item = Item-send K V keys values in search (Slots-send, sendable) depth 20

  pub Leaf-sync : IsSync K → IsSync V → IsSync (Leaf.the_row K V)
  Leaf-sync keys values = let item = Item-sync K V keys values in search (Slots-sync, sendable) depth 20
