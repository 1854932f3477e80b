-- A node after a `&mut` into it has ended.
use Rattle.std.specs.Prelude.{ℕ, Option, Result}
use Rattle.std.specs.Borrow.{LendsIf, LendsIfOk, Fml, RattleType, MutBor}
use Rattle.std.specs.declared.cmp.Ordering.{Ordering}
use Rattle.btree_item.specs.contracts.item.Item.{the_row as item_row}
use Rattle.btree_leaf.specs.LeafLends.{leaf_with_item_at, leaf_with_value}
use Rattle.btree_internal.specs.InternalLends.{internal_with_item_at, internal_with_value}
use Rattle.btree_node.specs.declared.node.Node.{Node}
use Rattle.btree_node.specs.declared.node.Node.TheVariants.{Leaf, Internal}
use Rattle.btree_node.specs.contracts.node.Node.{the_row}

module _ {K V : Type 0} where
  -- with w as the value at a key equal to k, if there is one
  abbrev pub node_with_value : (K → K → Ordering) → K → Node K V → V → Node K V
  node_with_value cmp k (Leaf l) w = Leaf (leaf_with_value cmp k l w)
  node_with_value cmp k (Internal n) w = Internal (internal_with_value cmp k n w)

  -- with x as the item at an offset, if there is one; the children stay
  abbrev pub node_with_item_at : Option ℕ → Node K V → K × V → Node K V
  node_with_item_at offset (Leaf l) x = Leaf (leaf_with_item_at offset l x)
  node_with_item_at offset (Internal n) x = Internal (internal_with_item_at offset n x)

module _ (K V : RattleType) where
  -- once the borrow r ends, the value at the key is the last one that r pointed to; at `Err` nothing changes
  abbrev pub node_lends : (K.Denot → K.Denot → Ordering) → MutBor (Node K.Denot V.Denot) → K.Denot → Result (MutBor V.Denot) (Option ℕ) → Fml
  node_lends cmp n key r = LendsIfOk (the_row K V) V n r (node_with_value cmp key n.now) n.now

  -- once the borrow r ends, the item at an offset is the last one that r pointed to; at `None` nothing changes
  abbrev pub node_lends_item : MutBor (Node K.Denot V.Denot) → Option ℕ → Option (MutBor (K.Denot × V.Denot)) → Fml
  node_lends_item n offset r = LendsIf (the_row K V) (item_row K V) n r (node_with_item_at offset n.now) n.now
