use Rattle.btree_item.proofs.Common.{◌≡◌, ◌≤◌, length, take}
use Rattle.std.specs.List.{AllZip}
use Rattle.btree_item.proofs.slots_clone.SlotsClone.clone.Given as goal

abbrev pub invariant-loop-index : goal.invariant-loop-index
invariant-loop-index g l = record {
  reached : length l.copy ≡ l.index;
  within : l.index ≤ l.index-end;
  cloned : AllZip g.T.Clone.is_clone (take l.index l.self) l.copy;
}
