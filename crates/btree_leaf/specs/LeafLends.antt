-- A leaf after a `&mut` into it has ended.
use Rattle.std.specs.Prelude.{ℕ, Option}
use Rattle.std.specs.Borrow.{LendsIf, Fml, RattleType, MutBor}
use Rattle.std.specs.declared.cmp.Ordering.{Ordering}
use Rattle.btree_item.specs.Pairs.{with_value}
use Rattle.btree_item.specs.contracts.item.Item.{the_row as item_row}
use Rattle.btree_view.specs.Kept.{set_at}
use Rattle.btree_leaf.specs.Leaf.{Leaf}
use Rattle.btree_leaf.specs.contracts.leaf.LeafNode.{the_row}

module _ (K V : RattleType) (cmp : K.Denot → K.Denot → Ordering) (leaf : MutBor (Leaf K.Denot V.Denot)) where
  -- once the borrow r ends, the value at the key is the last one that r pointed to; at `None` nothing changes
  abbrev pub leaf_lends_value : K.Denot → Option (MutBor V.Denot) → Fml
  leaf_lends_value key r = LendsIf (the_row K V) V leaf r (λ w. record leaf.now { items = with_value cmp key w leaf.now.items }) leaf.now

-- with w as the value at a key equal to k, if there is one
unfoldable pub leaf_with_value : {K V : Type 0} → (K → K → Ordering) → K → Leaf K V → V → Leaf K V
leaf_with_value cmp k l w = record l { items = with_value cmp k w l.items }

-- with x as the item at an offset, if there is one
unfoldable pub leaf_with_item_at : {K V : Type 0} → Option ℕ → Leaf K V → K × V → Leaf K V
leaf_with_item_at offset l x = record l { items = set_at offset l.items x }

-- once the borrow r ends, the item at an offset is the last one that r pointed to; at `None` nothing changes
abbrev pub leaf_lends_item : (K V : RattleType) → MutBor (Leaf K.Denot V.Denot) → Option ℕ → Option (MutBor (K.Denot × V.Denot)) → Fml
leaf_lends_item K V leaf offset r = LendsIf (the_row K V) (item_row K V) leaf r (leaf_with_item_at offset leaf.now) leaf.now
