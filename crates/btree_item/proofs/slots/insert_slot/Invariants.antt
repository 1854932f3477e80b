use Rattle.btree_item.proofs.Common.{◌≡◌, ◌≤◌, length, take, insert}
use Rattle.btree_item.proofs.slots.insert_slot.Given as goal

abbrev pub invariant-loop-i : goal.invariant-loop-i
invariant-loop-i g l = record {
  same : length l.slots.items ≡ length l.initial.slots.items;
  from : l.index ≤ l.i;
  carried : insert (take l.len l.slots.items) l.i l.carried ≡ insert (take l.len l.initial.slots.items) l.index l.initial.carried;
}
