use Rattle.btree_raw.proofs.Common.{refl, ap, rules, writes_node}
use Rattle.std.specs.FinMap as map
use Rattle.btree_raw.proofs.node_changes.put.Goals as goal

pub returns : goal.returns
returns g c = record { nodes = writes_node c.args.tree.now.nodes (map.insert c.args.tree.now.nodes c.args.id c.replace.new.dest) c.args.id c.args.node (ap (map.insert c.args.tree.now.nodes c.args.id) c.replace.ensures.after); rest = record { rest = refl } }

pub node_mut-requires : goal.node_mut-requires
node_mut-requires g c = search rules steps 200000

-- `drop-requires-room-T-Destruct` is left out of this print (no verdict changes): its front end refused it

-- `drop-requires-room-T-Destruct` is left out of this print (no verdict changes): its front end refused it
