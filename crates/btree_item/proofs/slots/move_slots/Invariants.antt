use Rattle.btree_item.proofs.Common.{◌≡◌, ◌+◌, ◌-◌, ◌≤◌, ◌++◌, length, take, drop}
use Rattle.btree_item.proofs.slots.move_slots.Given as goal

abbrev pub invariant-loop-i : goal.invariant-loop-i
invariant-loop-i g l = record {
  same : length l.slots.items ≡ length l.initial.slots.items;
  same_to : length l.to.items ≡ length l.initial.to.items;
  from : l.at ≤ l.i;
  place : l.place ≡ l.to_len + (l.i - l.at);
  front : take l.at l.slots.items ≡ take l.at l.initial.slots.items;
  rest : take l.place l.to.items ++ drop l.i (take l.len l.slots.items) ≡ take l.to_len l.initial.to.items ++ drop l.at (take l.len l.initial.slots.items);
}
