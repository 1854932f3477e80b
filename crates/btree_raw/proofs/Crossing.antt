-- A raw tree may cross threads where its keys, its values and its store may.
use denote.RattleType.{RattleType}
use denote.Param.Send.{IsSend, IsSync, sendable}
use Rattle.btree_node.specs.declared.node_stores.Nodes as nodes
use Rattle.btree_node.specs.declared.node_stores.NodesMut as nodes_mut
use Rattle.btree_raw.specs.contracts.raw.RawBTree as Raw

module _ (K V C O : RattleType) (s : nodes_mut.Ghosts C.Denot K.Denot V.Denot O.Denot) (s' : nodes.Ghosts C.Denot K.Denot V.Denot) where
  pub Raw-send : IsSend K → IsSend V → IsSend C → IsSend (Raw.the_field K V C O s s').row
  Raw-send keys values store = search sendable depth 20

  pub Raw-sync : IsSync K → IsSync V → IsSync C → IsSync (Raw.the_field K V C O s s').row
  Raw-sync keys values store = search sendable depth 20
