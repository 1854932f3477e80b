-- A node may cross threads where its keys and values may.
use denote.RattleType.{RattleType}
use denote.Param.Send.{IsSend, IsSync, sendable}
use Rattle.btree_leaf.proofs.Crossing.{Leaf-send, Leaf-sync}
use Rattle.btree_internal.proofs.Crossing.{Internal-send, Internal-sync}
use Rattle.btree_node.specs.contracts.node.Node as Node

module _ (K V : RattleType) where
  pub Node-send : IsSend K → IsSend V → IsSend (Node.the_field K V).row
  Node-send keys values = let leaf = Leaf-send K V keys values in let internal = Internal-send K V keys values in search sendable depth 20

  pub Node-sync : IsSync K → IsSync V → IsSync (Node.the_field K V).row
  Node-sync keys values = let leaf = Leaf-sync K V keys values in let internal = Internal-sync K V keys values in search sendable depth 20

pub ruleset crosses = (Node-send, Node-sync)
