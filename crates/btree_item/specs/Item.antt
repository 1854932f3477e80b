-- An item after a `&mut` into it has ended.
use Rattle.std.specs.Prelude.{[], ◌∷◌}
use Rattle.std.specs.Borrow.{Lends, Fml, RattleType, MutBor}
use denote.Struct.Tuple.{Tuple}
use Rattle.btree_item.specs.contracts.item.Item.{the_row}

module _ (K V : RattleType) (item : MutBor (K.Denot × V.Denot)) where
  -- once the borrow r ends, the key is the last value that r pointed to
  abbrev pub lends_key : MutBor K.Denot → Fml
  lends_key r = Lends (the_row K V) K item r (λ key. (key, item.now.1))

  -- once the borrow r ends, the value is the last value that r pointed to
  abbrev pub lends_value : MutBor V.Denot → Fml
  lends_value r = Lends (the_row K V) V item r (λ value. (item.now.0, value))

  -- once the borrow r ends, the item is the last pair that r pointed to
  abbrev pub lends_pair : MutBor (K.Denot × V.Denot) → Fml
  lends_pair r = Lends (the_row K V) (Tuple (K ∷ V ∷ [])) item r (λ pair. pair)
