-- A tree may cross threads where its keys, its values and its store may.
use denote.RattleType.{RattleType}
use denote.Param.Send.{IsSend, IsSync, sendable}
use Rattle.std.specs.declared.cmp.Ord as ord
use Rattle.std.specs.declared.cmp.PartialEq as eq
use Rattle.std.specs.declared.cmp.PartialOrd as partial
use Rattle.btree_node.specs.declared.node_stores.Nodes as nodes
use Rattle.btree_node.specs.declared.node_stores.NodesMut as nodes_mut
use Rattle.btree_raw.proofs.Crossing.{Raw-send, Raw-sync}
use Rattle.btree_ext.specs.contracts.tree.Tree as Tree

module _ (K V C O : RattleType) (o : ord.Ghosts K.Denot) (e : eq.Ghosts K.Denot) (p : partial.Ghosts K.Denot) where
  module _ (s : nodes_mut.Ghosts C.Denot K.Denot V.Denot O.Denot) (s' : nodes.Ghosts C.Denot K.Denot V.Denot) where
    pub Tree-send : IsSend K → IsSend V → IsSend C → IsSend (Tree.the_field K V C O o e p s s').row
    Tree-send keys values store = let raw = Raw-send K V C O s s' keys values store in search sendable depth 20

    pub Tree-sync : IsSync K → IsSync V → IsSync C → IsSync (Tree.the_field K V C O o e p s s').row
    Tree-sync keys values store = let raw = Raw-sync K V C O s s' keys values store in search sendable depth 20
