use Rattle.std.proofs.Common.{arith}
use borrow.Author.Rules.{scaled_Fits}
use Rattle.btree_more_stores.proofs.fixed_slab.take_out.Goals as goal

pub as_mut_slice-requires : goal.as_mut_slice-requires
as_mut_slice-requires g c = let fits = c.well_formed in omega arith

pub offset_bounds-as_mut_slice-id : goal.offset_bounds-as_mut_slice-id
offset_bounds-as_mut_slice-id g c = scaled_Fits _ _ _ (rw c.as_mut_slice.ensures.value c.requires.inside) c.as_mut_slice.type_inv.1

pub bounds-as_mut_slice-id : goal.bounds-as_mut_slice-id
bounds-as_mut_slice-id g c = rw c.as_mut_slice.ensures.value c.requires.inside
