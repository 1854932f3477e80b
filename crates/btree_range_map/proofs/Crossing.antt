-- A map of ranges may cross threads where its values and its store may.
use denote.RattleType.{RattleType}
use denote.Param.Send.{IsSend, IsSync, sendable}
use Rattle.std.specs.Prelude.{ℕ}
use Rattle.std.specs.declared.clone.Clone as clone
use Rattle.std.specs.declared.cmp.PartialEq as eq
use Rattle.btree_node.specs.declared.node_stores.Nodes as nodes
use Rattle.btree_node.specs.declared.node_stores.NodesMut as nodes_mut
use Rattle.btree_map.proofs.Crossing.{Map-send, Map-sync}
use Rattle.btree_range_map.specs.contracts.map.RangeMap as Ranges
use Rattle.btree_range_map.specs.contracts.span.Span as Range
use Rattle.btree_range_map.specs.declared.span.Span.{Span}

module _ (V : RattleType) where
  pub Span-send : IsSend V → IsSend (Range.the_field V).row
  Span-send values = search sendable depth 20

  pub Span-sync : IsSync V → IsSync (Range.the_field V).row
  Span-sync values = search sendable depth 20

module _ (V C O : RattleType) (c : clone.Ghosts V.Denot) (e : eq.Ghosts V.Denot) (s : nodes_mut.Ghosts C.Denot ℕ (Span V.Denot) O.Denot) (s' : nodes.Ghosts C.Denot ℕ (Span V.Denot)) where
  pub Ranges-send : IsSend V → IsSend C → IsSend (Ranges.the_field V C O c e s s').row
  Ranges-send values store = let span = Span-send V values in search (Map-send, sendable) depth 20

  pub Ranges-sync : IsSync V → IsSync C → IsSync (Ranges.the_field V C O c e s s').row
  Ranges-sync values store = let span = Span-sync V values in search (Map-sync, sendable) depth 20

pub ruleset crosses = (Span-send, Span-sync, Ranges-send, Ranges-sync)
