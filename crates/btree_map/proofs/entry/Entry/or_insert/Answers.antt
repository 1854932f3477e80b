use Rattle.btree_map.proofs.Common.{refl}
use Rattle.btree_map.proofs.entry.Entry.or_insert.Goals as goal

pub returns-in-Occupied : goal.returns-in-Occupied
returns-in-Occupied g c = rw c.in-Occupied.is (
  (
    refl,
    λ w is. let h = c.into_mut.ensures.writes w in record { pairs = h.pairs; sets = (_, h) },
    tt,
  ),
  record {
    writes_back = tt;
    value = rw c.into_mut.ensures.value refl;
    returned = tt;
  },
)
