-- What a tree is once a borrow of one of its values ends.
use Rattle.std.specs.Prelude.{Option}
use Rattle.std.specs.Borrow.{Fml, Lends, LendsIf, MutBor, RattleType}
use Rattle.std.specs.declared.cmp.Ordering.{Ordering}
use Rattle.btree_item.specs.Address.{Address}
use Rattle.btree_laws.specs.TreeState.{TreeState}
use Rattle.btree_raw.specs.Lent.{StoreMembers, raw_row}
use Rattle.btree_ext.specs.KeyWritten.{key_written}
use Rattle.btree_ext.specs.ValueWritten.{value_written}

module _ (K V C O : RattleType) (s : StoreMembers C.Denot K.Denot V.Denot) (tree : MutBor (TreeState K.Denot V.Denot)) where
  -- the last value behind the borrow is that of the item at the address, and nothing else has changed
  abbrev pub lends_value : Address → MutBor V.Denot → Fml
  lends_value a value = Lends (raw_row K V C O s) V tree value (value_written tree.now a)

  -- the last value behind the borrow is the one at the key; without one nothing has changed
  abbrev pub lends_at_key : {Q : Type 0} → (K.Denot → Q → Ordering) → Q → Option (MutBor V.Denot) → Fml
  lends_at_key cmp k value = LendsIf (raw_row K V C O s) V tree value (key_written cmp k tree.now) tree.now
