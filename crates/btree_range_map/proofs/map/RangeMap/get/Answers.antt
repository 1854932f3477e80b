use Rattle.btree_range_map.proofs.Common.{sym, pairs_of}
use Rattle.btree_range_map.proofs.PlaceLemmas.{around-value}
use Rattle.btree_range_map.proofs.map.RangeMap.get.Goals as goal

pub returns : goal.returns
returns g c = rw (← c.self.view_is) (sym (around-value (pairs_of c.self.inside.map) c.args.number _ c.self.invariant.0 c.in_ok-span.ensures.around))
