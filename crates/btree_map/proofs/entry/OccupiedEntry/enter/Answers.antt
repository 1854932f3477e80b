use Rattle.btree_map.proofs.Common.{refl, item-occupied}
use Rattle.btree_map.proofs.WrittenLemmas.{writes-value}
use Rattle.btree_map.proofs.entry.OccupiedEntry.enter.Goals as goal

pub replace_value_at-requires : goal.replace_value_at-requires
replace_value_at-requires g c = item-occupied c.args.self.map.now c.args.self.at c.args.self.occupied

pub returns : goal.returns
returns g c = (
  (refl, λ w. refl, tt),
  record {
    rests = tt;
    same_map = refl;
    at = refl;
    writes = (c.replace_value_at.result, writes-value g.K.Ord.cmp g.met.K.Ord.total c.args.self.map.now c.tell_well_formed.ensures.well_formed c.args.self.at c.replace_value_at.new.self c.replace_value_at.result c.args.value c.replace_value_at.ensures);
    succeeds = refl;
  },
)
