-- What the removal of an item from a leaf returns, if the node may also be an internal node.
use Rattle.std.specs.Prelude.{ℕ, Option, Some, None, Result, Ok, Err}
use Rattle.std.specs.Option.{option_map}
use Rattle.btree_view.specs.View.{View, child_before_offset, item_at_offset}

module _ {A : Type 0} where
  -- Ok with the item if there is no child, as in a leaf; else Err with the child
  abbrev pub item_or_child : A → Option ℕ → Result A ℕ
  item_or_child x None = Ok x
  item_or_child x (Some child) = Err child

  -- at an item of a leaf, Ok with the item; at an item of an internal node, Err with the child before it
  abbrev pub removal_in : Option ℕ → View A → Option (Result A ℕ)
  removal_in offset node =
      option_map (λ x. item_or_child x (child_before_offset node offset)) (item_at_offset node offset)
