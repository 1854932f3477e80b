use Rattle.std.proofs.Common.{arith}
use Rattle.btree_more_stores.proofs.FillLemmas.{table-skip, free-room}
use Rattle.btree_more_stores.proofs.fixed_slab.filling.add_free.Goals as goal

pub push-requires : goal.push-requires
push-requires g c =
    let before = c.loop-place.invariant in
    let fits = c.well_formed in
    (omega arith, free-room _ _ _ _ _ (omega (arith, before.within, c.loop-place-test.true, c.requires.below)) before.table)

pub loop-place-preserved : goal.loop-place-preserved
loop-place-preserved g c =
    let before = c.loop-place.invariant in
    record {
      table = rw c.push.ensures.items (table-skip _ _ _ _ _ (omega (arith, c.loop-place-test.true, c.requires.below)) before.table);
      within = omega (arith, c.loop-place-test.true);
    }
