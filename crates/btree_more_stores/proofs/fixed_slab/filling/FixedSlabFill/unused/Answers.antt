use Rattle.std.proofs.Common.{arith}
use Rattle.btree_more_stores.proofs.SlotLemmas.{content-none}
use Rattle.btree_more_stores.proofs.TableLemmas.{table-new, all-none}
use Rattle.btree_more_stores.proofs.fixed_slab.filling.FixedSlabFill.unused.Goals as goal

pub default-requires : goal.default-requires
default-requires g c = let fits = c.well_formed in omega arith

pub from_array_in-requires : goal.from_array_in-requires
from_array_in-requires g c = let fits = c.well_formed in (omega arith, omega arith)

pub invariant_of-result : goal.invariant_of-result
invariant_of-result g c = rw (c.from_array_in.ensures.items, c.new.ensures) (table-new _ _ c.default.ensures.long (all-none 0 _ _ c.default.ensures))

pub returns-clause-content : goal.returns-clause-content
returns-clause-content g c = rw c.from_array_in.ensures.items (content-none _ (all-none 0 _ _ c.default.ensures))
