use denote.Param.Send.{sendable}
use Rattle.btree_slab.proofs.Crossing.{crosses}
use Rattle.example_maps.proofs.shared.send_each.Goals as goal

pub send-requires-send-T : goal.send-requires-send-T
send-requires-send-T c κs = search (crosses, sendable) depth 40

pub send-requires-2-send-T : goal.send-requires-2-send-T
send-requires-2-send-T c κs = search (crosses, sendable) depth 40

pub send-requires-3-send-T : goal.send-requires-3-send-T
send-requires-3-send-T c κs = search (crosses, sendable) depth 40

pub send-requires-4-send-T : goal.send-requires-4-send-T
send-requires-4-send-T c κs = search (crosses, sendable) depth 40

pub send-requires-5-send-T : goal.send-requires-5-send-T
send-requires-5-send-T c κs = search (crosses, sendable) depth 40
