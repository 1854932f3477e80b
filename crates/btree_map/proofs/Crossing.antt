-- A map may cross threads where its keys, its values and its store may.
use denote.RattleType.{RattleType}
use denote.Param.Send.{IsSend, IsSync, sendable}
use Rattle.std.specs.declared.cmp.Ord as ord
use Rattle.std.specs.declared.cmp.PartialEq as eq
use Rattle.std.specs.declared.cmp.PartialOrd as partial
use Rattle.btree_node.specs.declared.node_stores.Nodes as nodes
use Rattle.btree_node.specs.declared.node_stores.NodesMut as nodes_mut
use Rattle.btree_ext.proofs.Crossing.{Tree-send, Tree-sync}
use Rattle.btree_map.specs.contracts.map.BTreeMap as Map

module _ (K V C O : RattleType) (o : ord.Ghosts K.Denot) (e : eq.Ghosts K.Denot) (p : partial.Ghosts K.Denot) where
  module _ (s : nodes_mut.Ghosts C.Denot K.Denot V.Denot O.Denot) (s' : nodes.Ghosts C.Denot K.Denot V.Denot) where
    pub Map-send : IsSend K → IsSend V → IsSend C → IsSend (Map.the_field K V C O o e p s s').row
    Map-send keys values store = let tree = Tree-send K V C O o e p s s' keys values store in search sendable depth 20

    pub Map-sync : IsSync K → IsSync V → IsSync C → IsSync (Map.the_field K V C O o e p s s').row
    Map-sync keys values store = let tree = Tree-sync K V C O o e p s s' keys values store in search sendable depth 20

pub ruleset crosses = (Map-send, Map-sync)
