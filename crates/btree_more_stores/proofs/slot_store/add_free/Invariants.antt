use Rattle.std.proofs.Common.{vec_capacity}
use Rattle.btree_more_stores.proofs.FilledLemmas.{Grows}
use Rattle.btree_more_stores.proofs.slot_store.add_free.Given as goal

abbrev pub invariant-loop-place : goal.invariant-loop-place
invariant-loop-place g l =
    Grows l.initial.slots.items l.slots.items l.free.items l.held (vec_capacity l.slots) (vec_capacity l.free) l.place l.id
