-- What the iterators over children have still to yield.
use Rattle.std.specs.Prelude.{ℕ, List, [], ◌∷◌, map, Option, Some, None}
use Rattle.std.specs.Borrow.{Bor}
use Rattle.std.specs.Option.{option_copied}
use Rattle.btree_item.specs.declared.item.Item.{Item}
use Rattle.btree_view.specs.Separators.{between_items}
use Rattle.btree_internal.specs.Internal.{branch_pair}
use Rattle.btree_internal.specs.declared.internal.Branch.{Branch}

module _ {K V : Type 0} where
  -- the numbers of a first child, if it is left, and of the children of the branches
  abbrev pub children_from : Option ℕ → List (Branch K V) → List ℕ
  children_from None branches = map (λ b. b.child) branches
  children_from (Some first) branches = first ∷ map (λ b. b.child) branches

  -- a child, if one is left, and those of the branches, each between the item before it and the item after it
  abbrev pub between_from : Option (Bor (Item K V)) → Option ℕ → List (Branch K V) → List (Option (Item K V) × ℕ × Option (Item K V))
  between_from before None branches = []
  between_from before (Some child) branches = between_items (option_copied before) child (map branch_pair branches)

  -- a child that is yielded, with the items that it stands between
  abbrev pub child_copied : Option (Bor (Item K V)) × ℕ × Option (Bor (Item K V)) → Option (Item K V) × ℕ × Option (Item K V)
  child_copied t = (option_copied t.0, t.1, option_copied t.2)
