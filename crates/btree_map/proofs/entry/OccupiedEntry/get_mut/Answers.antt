use Rattle.btree_map.proofs.Common.{refl, ap, option_map, item-occupied}
use Rattle.btree_map.proofs.SameEntry.{same_entry}
use Rattle.btree_map.proofs.WrittenLemmas.{writes-value}
use Rattle.btree_map.proofs.entry.OccupiedEntry.get_mut.Goals as goal

pub pair_mut-value-requires : goal.pair_mut-value-requires
pair_mut-value-requires g c = item-occupied c.args.self.now.map.now c.args.self.now.at c.args.self.now.occupied

pub returns : goal.returns
returns g c = (
  (refl, λ w. same_entry c.args.self.now.map _ c.args.self.now.at _ _),
  record {
    writes_back = tt;
    value = ap (option_map (λ (x : g.row.K.Denot × g.row.V.Denot). x.1)) c.pair_mut-value.ensures.pair;
    writes = λ w. writes-value g.K.Ord.cmp g.met.K.Ord.total c.args.self.now.map.now c.pair_mut-value.ensures.well_formed c.args.self.now.at _ _ w
        (c.pair_mut-value.ensures.exchanged w);
  },
)
