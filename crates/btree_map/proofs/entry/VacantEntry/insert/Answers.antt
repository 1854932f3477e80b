use Rattle.btree_map.proofs.Common.{refl}
use Rattle.btree_map.proofs.WrittenLemmas.{inserted-value, inserted-with}
use Rattle.btree_map.proofs.entry.VacantEntry.insert.Goals as goal

pub returns-in-Ok : goal.returns-in-Ok
returns-in-Ok g c = (
  (
    refl,
    λ w t. inserted-with g.K.Ord.cmp c.args.self.key c.args.self.map.now c.insert_absent.new.self c.args.value c.in-Ok.addr c.in-Ok.ensures.inserted
        _ w (c.pair_mut-lent.ensures.exchanged w),
    tt,
  ),
  record {
    writes_back = tt;
    value =
        inserted-value g.K.Ord.cmp c.args.self.key c.args.self.map.now c.insert_absent.new.self c.args.value c.in-Ok.addr c.in-Ok.ensures.inserted
        _ _ c.pair_mut-lent.ensures.pair;
    returned = tt;
  },
)
