-- The list of slots after a `&mut` into it has ended.
use Rattle.std.specs.Prelude.{ℕ, List, Option, slice_set}
use Rattle.std.specs.Borrow.{LendsIf, Fml, RattleType, MutBor}
use Rattle.btree_item.specs.contracts.slots.Slots.{the_row}

module _ (T N : RattleType) (slots : MutBor (List T.Denot)) where
  -- once the borrow r ends, the value at the index is the last one that r pointed to; at `None` nothing changes
  abbrev pub lends_slot : ℕ → Option (MutBor T.Denot) → Fml
  lends_slot index r = LendsIf (the_row T N) T slots r (slice_set slots.now index) slots.now
