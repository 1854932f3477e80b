-- What the iterators over the children of any node have still to yield.
use Rattle.std.specs.Prelude.{ℕ, List, [], Option}
use Rattle.btree_item.specs.declared.item.Item.{Item}
use Rattle.btree_internal.specs.declared.children.Children.{Children}
use Rattle.btree_internal.specs.declared.children.Children.TheVariants.{Leaf, Internal}
use Rattle.btree_internal.specs.declared.children.ChildrenWithSeparators.{ChildrenWithSeparators}
use Rattle.btree_internal.specs.declared.children.ChildrenWithSeparators.TheVariants.{Leaf as LeafBetween, Internal as InternalBetween}

module _ {K V : Type 0} where
  -- the numbers of the children that are left
  abbrev pub children_left : Children K V → List ℕ
  children_left Leaf = []
  children_left (Internal rest) = rest

  -- the children that are left, each between the item before it and the item after it
  abbrev pub between_left : ChildrenWithSeparators K V → List (Option (Item K V) × ℕ × Option (Item K V))
  between_left LeafBetween = []
  between_left (InternalBetween rest) = rest
