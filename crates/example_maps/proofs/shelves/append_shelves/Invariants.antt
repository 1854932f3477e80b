use Rattle.std.proofs.Common.{◌≡◌, ◌++◌}
use Rattle.std.specs.Map.{values_of}
use Rattle.example_maps.specs.Shelves.{shelves_of}
use Rattle.example_maps.proofs.shelves.append_shelves.Given as goal

-- the shelves found, with those that are left, are all of them
abbrev pub invariant-loop-pair : goal.invariant-loop-pair
invariant-loop-pair g l = l.found.items ++ values_of l.rest ≡ l.fn.found.items ++ shelves_of g.K.Ord.cmp l.fn.part l.fn.shelves.elements
