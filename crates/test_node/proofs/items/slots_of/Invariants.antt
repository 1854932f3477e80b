use Rattle.std.proofs.Common.{◌≡◌, map, take}
use Rattle.test_node.proofs.items.slots_of.Given as goal

abbrev pub invariant-loop-number : goal.invariant-loop-number
invariant-loop-number l = map (λ item. item.0) l.slots ≡ take l.number-index l.numbers
