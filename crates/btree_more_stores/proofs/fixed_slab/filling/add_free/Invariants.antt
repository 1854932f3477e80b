use Rattle.std.proofs.Common.{◌≤◌}
use Rattle.btree_more_stores.specs.Table.{IsTable}
use Rattle.btree_more_stores.proofs.fixed_slab.filling.add_free.Given as goal

abbrev pub invariant-loop-place : goal.invariant-loop-place
invariant-loop-place g l = record { table : IsTable g.row.N l._slots.items l.free.items l.place l.held; within : l.place ≤ l.id }
