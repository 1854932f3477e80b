use Rattle.std.proofs.Common.{arith, refl}
use Rattle.btree_more_stores.proofs.SlotLemmas.{content-none}
use Rattle.btree_more_stores.proofs.TableLemmas.{table-new, all-none}
use Rattle.btree_more_stores.proofs.fixed_slab.FixedSlabClear.clear.Goals as goal

pub default-requires : goal.default-requires
default-requires g c = let fits = c.well_formed in omega arith

pub from_array_in-requires : goal.from_array_in-requires
from_array_in-requires g c = let fits = c.well_formed in (omega arith, omega arith)

pub array_drop-self-inside-requires : goal.array_drop-self-inside-requires
array_drop-self-inside-requires g c = let fits = c.well_formed in omega arith

pub clear-requires : goal.clear-requires
clear-requires g c = let fits = c.well_formed in omega arith

pub invariant_of-self : goal.invariant_of-self
invariant_of-self g c = rw (c.from_array_in.ensures.items, c.clear.ensures) (table-new _ _ c.default.ensures.long (all-none 0 _ _ c.default.ensures))

pub returns-clause-content : goal.returns-clause-content
returns-clause-content g c = rw c.from_array_in.ensures.items (content-none _ (all-none 0 _ _ c.default.ensures))

pub returns-clause-uncounted : goal.returns-clause-uncounted
returns-clause-uncounted g c = rw (← c.self.view_is) refl
