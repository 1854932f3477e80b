use Rattle.std.proofs.Common.{◌≡◌, ◌++◌, filter, length}
use Rattle.btree_slab.specs.Editing.{left_of, passed_of}
use Rattle.example_maps.specs.Stock.{is_in_stock}
use Rattle.example_maps.proofs.StockLemmas.{Keeps}
use Rattle.example_maps.proofs.sold_out.remove_sold_out.Given as goal

abbrev pub invariant-loop-part : goal.invariant-loop-part
invariant-loop-part g l = record {
  same_map : l.parts.map.ghost_name ≡ l.initial.parts.map.ghost_name;
  kept : Keeps is_in_stock (passed_of l.initial.parts ++ filter is_in_stock (left_of l.initial.parts)) (passed_of l.parts) (left_of l.parts);
}

abbrev pub decreases-loop-part : goal.decreases-loop-part
decreases-loop-part g l = length (left_of l.parts)
