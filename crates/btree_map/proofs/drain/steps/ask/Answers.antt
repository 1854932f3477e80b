use Rattle.btree_map.proofs.Common.{refl}
use Rattle.btree_map.proofs.drain.steps.ask.Goals as goal

pub returns : goal.returns
returns g c = record {
  key = _;
  was = _;
  is = _;
  step = c.passes.ensures;
  writes = c.peek_pair-value.ensures.writes _;
  written = refl;
}
