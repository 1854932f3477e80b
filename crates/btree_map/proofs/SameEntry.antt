-- Two occupied entries with the same map and address are equal.
use Rattle.btree_map.proofs.Common.{◌≡◌, IsSome, MutBor, Address, TreeState, item_of}
use Rattle.std.proofs.Math.Bool.{Bool-set}
use Rattle.std.specs.declared.cmp.Ord as ord
use Rattle.std.specs.declared.cmp.PartialEq as eq
use Rattle.std.specs.declared.cmp.PartialOrd as partial
use Rattle.btree_node.specs.declared.node_stores.Nodes as nodes
use Rattle.btree_node.specs.declared.node_stores.NodesMut as nodes_mut
use Rattle.btree_map.specs.declared.entry.OccupiedEntry.{OccupiedEntry}

module _ {K V C O : Type 0} {g : ord.Ghosts K} {g' : eq.Ghosts K} {g'' : partial.Ghosts K} {s : nodes_mut.Ghosts C K V O} {s' : nodes.Ghosts C K V} where
  pub same_entry : (map : MutBor (TreeState K V)) (new : TreeState K V) (a : Address) (p q : IsSome (item_of new a))
      → ◌≡◌ {A = OccupiedEntry K V C O g g' g'' s s'} (record { map = record map { now = new }; at = a; occupied = p })
      (record { map = record map { now = new }; at = a; occupied = q })
  same_entry map new a p q i = record { map = record map { now = new }; at = a; occupied = Bool-set _ _ p q i }
