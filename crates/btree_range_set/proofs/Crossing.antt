-- A set of ranges may cross threads where its store may.
use denote.RattleType.{RattleType}
use denote.Param.Send.{IsSend, IsSync, sendable}
use Rattle.std.specs.Prelude.{ℕ}
use Rattle.btree_node.specs.declared.node_stores.Nodes as nodes
use Rattle.btree_node.specs.declared.node_stores.NodesMut as nodes_mut
use Rattle.btree_map.proofs.Crossing.{Map-send, Map-sync}
use Rattle.btree_range_set.specs.contracts.set.RangeSet as Ranges

module _ (C O : RattleType) (s : nodes_mut.Ghosts C.Denot ℕ ℕ O.Denot) (s' : nodes.Ghosts C.Denot ℕ ℕ) where
  pub Ranges-send : IsSend C → IsSend (Ranges.the_field C O s s').row
  Ranges-send store = search (Map-send, sendable) depth 20

  pub Ranges-sync : IsSync C → IsSync (Ranges.the_field C O s s').row
  Ranges-sync store = search (Map-sync, sendable) depth 20

pub ruleset crosses = (Ranges-send, Ranges-sync)
