use Rattle.btree_map.proofs.Common.{refl, ap, option_map, item-occupied}
use Rattle.btree_map.proofs.WrittenLemmas.{writes-value}
use Rattle.btree_map.proofs.entry.OccupiedEntry.into_mut.Goals as goal

pub pair_mut-value-requires : goal.pair_mut-value-requires
pair_mut-value-requires g c = item-occupied c.args.self.map.now c.args.self.at c.args.self.occupied

pub returns : goal.returns
returns g c = (
  (refl, λ w. refl),
  record {
    writes_back = tt;
    value = ap (option_map (λ (x : g.row.K.Denot × g.row.V.Denot). x.1)) c.pair_mut-value.ensures.pair;
    writes = λ w. writes-value g.K.Ord.cmp g.met.K.Ord.total c.args.self.map.now c.pair_mut-value.ensures.well_formed c.args.self.at _ _ w
        (c.pair_mut-value.ensures.exchanged w);
  },
)
