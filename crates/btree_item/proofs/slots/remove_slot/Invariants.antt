use Rattle.btree_item.proofs.Common.{◌≡◌, ◌-◌, ◌<◌, ◌≤◌, length, take, insert}
use Rattle.btree_item.proofs.slots.remove_slot.Given as goal

abbrev pub invariant-loop-i : goal.invariant-loop-i
invariant-loop-i g l = record {
  same : length l.slots.items ≡ length l.initial.slots.items;
  within : l.i < l.len;
  from : l.index ≤ l.i;
  carried : insert (take (l.len - 1) l.slots.items) l.i l.carried ≡ insert (take (l.len - 1) l.initial.slots.items) l.initial.i l.initial.carried;
}

abbrev pub decreases-loop-i : goal.decreases-loop-i
decreases-loop-i g l = l.i
