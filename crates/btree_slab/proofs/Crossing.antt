-- Which maps, sets, sets of ranges and maps of ranges may cross threads, as a set for `search`: those over the heap or in a table, where their keys and
-- values may. The laws of std on what owns memory, as a `String`, are in it.
use Rattle.std.proofs.Crossing.{crosses as owned}
use Rattle.btree_store.proofs.Crossing.{crosses as heap}
use Rattle.btree_more_stores.proofs.Crossing.{crosses as tables}
use Rattle.btree_node.proofs.Crossing.{crosses as nodes}
use Rattle.btree_map.proofs.Crossing.{crosses as maps}
use Rattle.btree_set.proofs.Crossing.{crosses as sets}
use Rattle.btree_range_set.proofs.Crossing.{crosses as ranges}
use Rattle.btree_range_map.proofs.Crossing.{crosses as range_maps}

pub ruleset crosses = (maps, sets, ranges, range_maps, heap, tables, nodes, owned)
