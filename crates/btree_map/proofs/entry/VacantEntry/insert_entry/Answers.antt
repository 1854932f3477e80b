use Rattle.btree_map.proofs.Common.{refl}
use Rattle.btree_map.proofs.entry.VacantEntry.insert_entry.Goals as goal

pub returns-in-Ok : goal.returns-in-Ok
returns-in-Ok g c = (
  (refl, λ w. refl, tt),
  record {
    rests = tt;
    same_map = refl;
    inserted = c.in-Ok.ensures.inserted;
    returned = tt;
  },
)
