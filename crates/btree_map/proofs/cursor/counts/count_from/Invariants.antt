use Rattle.btree_map.proofs.Common.{◌≡◌, ◌+◌, ◌-◌, length, item_addresses_of, item_index}
use Rattle.btree_map.specs.Spans.{IsFirstListed}
use Rattle.btree_map.proofs.cursor.counts.count_from.Given as goal

abbrev pub invariant-loop-next : goal.invariant-loop-next
invariant-loop-next g l = record {
  stands : IsFirstListed l.fn.map l.next;
  counted : item_index l.fn.map l.fn.first + l.count ≡ item_index l.fn.map l.next;
}

abbrev pub decreases-loop-next : goal.decreases-loop-next
decreases-loop-next g l = length (item_addresses_of l.fn.map) - item_index l.fn.map l.next
