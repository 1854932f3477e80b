use Rattle.btree_range_map.proofs.edits.set_end.Goals as goal

pub returns : goal.returns
returns g c = record {
  span = c.pair_mut-span.result.1.now;
  exchanged = c.pair_mut-span.ensures.exchanged (record { end = c.args.end; value = c.pair_mut-span.result.1.now.value });
}
