use Rattle.std.proofs.Common.{◌≡◌, ◌++◌, take}
use Rattle.std.specs.BTreeMap.Range.{entries_between}
use Rattle.std.specs.Map.{keys_of}
use Rattle.std.specs.Ordering.{nat_cmp}
use Rattle.std.specs.declared.ops.Bound.TheVariants.{Excluded, Unbounded}
use Rattle.btree_slab.specs.TreeState.{pairs_of}
use Rattle.example_maps.proofs.listing.next_page.Given as goal

-- the page, with what may still be added to it, is the whole page
abbrev pub invariant-loop-left : goal.invariant-loop-left
invariant-loop-left l = l.page.items ++ take l.left (keys_of l.rest) ≡ l.fn.page.items ++ take l.fn.size (keys_of (entries_between nat_cmp (Excluded l.fn.last) Unbounded (pairs_of l.fn.listing)))
