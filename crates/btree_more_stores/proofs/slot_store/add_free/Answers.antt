use Rattle.std.proofs.Common.{◌∙◌, ◌+◌, ◌≤◌, vec_capacity, arith, length-append, [], ◌∷◌, None}
use Rattle.btree_more_stores.proofs.FilledLemmas.{content-push_none, filled-push_none}
use Rattle.btree_more_stores.proofs.slot_store.add_free.Goals as goal

pub loop-place-preserved : goal.loop-place-preserved
loop-place-preserved g c =
    let before = c.loop-place.invariant in
    let room : c.loop-place.place + 1 ≤ vec_capacity c.push_reserved-in-loop-place.new.self = omega arith in
    record {
      filled = rw (c.push_reserved.ensures.items, c.push_reserved-in-loop-place.ensures.items) (filled-push_none _ _ _ _ _ before.long _ room before.filled);
      content = rw c.push_reserved.ensures.items (content-push_none c.loop-place.slots.items) ∙ before.content;
      long = rw c.push_reserved.ensures.items (omega (arith, length-append c.loop-place.slots.items (None ∷ []), before.long));
      within = omega arith;
      slots_room = omega arith;
      free_room = omega arith;
    }
