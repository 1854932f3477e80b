-- The items and keys next to the children of a node.
use Rattle.std.specs.Prelude.{ℕ, zero, suc, List, [], ◌∷◌, ◌++◌, map, slice_get, Option, Some, None}
use Rattle.std.specs.List.{zip}
use Rattle.std.specs.Option.{option_map}
use Rattle.btree_view.specs.View.{View, leaf, internal}

module _ {A : Type 0} where
  -- the item before the child at an index; a leaf has none
  abbrev pub item_before_child : View A → ℕ → Option A
  item_before_child (leaf parent items) index = None
  item_before_child (internal parent first branches) zero = None
  item_before_child (internal parent first branches) (suc index) = slice_get (map (λ b. b.0) branches) index

  -- the item after the child at an index; a leaf has none
  abbrev pub item_after_child : View A → ℕ → Option A
  item_after_child (leaf parent items) index = None
  item_after_child (internal parent first branches) index = slice_get (map (λ b. b.0) branches) index

module _ {K V : Type 0} where
  -- the key before the child at an index; a leaf has none
  abbrev pub separator_before : View (K × V) → ℕ → Option K
  separator_before node index = option_map (λ x. x.0) (item_before_child node index)

  -- the key after the child at an index; a leaf has none
  abbrev pub separator_after : View (K × V) → ℕ → Option K
  separator_after node index = option_map (λ x. x.0) (item_after_child node index)

module _ {A : Type 0} where
  -- a child and the branches after it, as children that each stand between the item before and the item after
  abbrev pub between_items : Option A → ℕ → List (A × ℕ) → List (Option A × ℕ × Option A)
  between_items before child branches =
      let items = map (λ b. Some b.0) branches in
      let children = child ∷ map (λ b. b.1) branches in
      map (λ t. (t.0, t.1.0, t.1.1)) (zip (before ∷ items) (zip children (items ++ None ∷ [])))

  -- each child between the item before it and the item after it: none before the first, and none after the last
  abbrev pub children_between_items : View A → List (Option A × ℕ × Option A)
  children_between_items (leaf parent items) = []
  children_between_items (internal parent first branches) = between_items None first branches
