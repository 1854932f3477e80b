-- A set may cross threads where its elements and its store may.
use denote.RattleType.{RattleType}
use denote.Plain.{Nothing}
use denote.Param.Send.{IsSend, IsSync, sendable}
use Rattle.std.specs.declared.cmp.Ord as ord
use Rattle.std.specs.declared.cmp.PartialEq as eq
use Rattle.std.specs.declared.cmp.PartialOrd as partial
use Rattle.btree_node.specs.declared.node_stores.Nodes as nodes
use Rattle.btree_node.specs.declared.node_stores.NodesMut as nodes_mut
use Rattle.btree_map.proofs.Crossing.{Map-send, Map-sync}
use Rattle.btree_set.specs.contracts.set.BTreeSet as Set

module _ (T C O : RattleType) (o : ord.Ghosts T.Denot) (e : eq.Ghosts T.Denot) (p : partial.Ghosts T.Denot) where
  module _ (s : nodes_mut.Ghosts C.Denot T.Denot Nothing.Denot O.Denot) (s' : nodes.Ghosts C.Denot T.Denot Nothing.Denot) where
    pub Set-send : IsSend T → IsSend C → IsSend (Set.the_field T C O o e p s s').row
    Set-send elements store = let map = Map-send T Nothing C O o e p s s' elements (search sendable) store in search sendable depth 20

    pub Set-sync : IsSync T → IsSync C → IsSync (Set.the_field T C O o e p s s').row
    Set-sync elements store = let map = Map-sync T Nothing C O o e p s s' elements (search sendable) store in search sendable depth 20

pub ruleset crosses = (Set-send, Set-sync)
