-- A key and the items on both sides of it.
use Rattle.std.specs.Prelude.{◌≡◌, IfSome, Option}
use Rattle.std.specs.declared.cmp.Ordering.{Ordering}
use Rattle.std.specs.declared.cmp.Ordering.TheVariants.{Less}
use Rattle.btree_item.specs.Address.{Address}
use Rattle.btree_laws.specs.TreeState.{TreeState, item_of}

module _ {K V : Type 0} (cmp : K → K → Ordering) (k : K) (tree : TreeState K V) where
  -- the key is above that of the item at an address, if there is one
  abbrev pub IsAboveItem : Option Address → Type 0
  IsAboveItem at = IfSome at (λ a. IfSome (item_of tree a) (λ x. cmp x.0 k ≡ Less))

  -- the key is below it
  abbrev pub IsBelowItem : Option Address → Type 0
  IsBelowItem at = IfSome at (λ a. IfSome (item_of tree a) (λ x. cmp k x.0 ≡ Less))
