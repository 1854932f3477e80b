-- A subtree as one finite value, level by level: a tool of the proofs and of what a loop in a tree keeps.
use Rattle.std.specs.Prelude.{◌≡◌, ℕ, zero, suc, ◌+◌, ◌≤◌, List, ◌∷◌, ◌++◌, length, map, Option, Some}
use Rattle.std.specs.List.{flat_map, AllByRecursion}
use Rattle.btree_item.specs.declared.TheConstants.{MAX_INTERNAL_ITEMS, MAX_LEAF_ITEMS, MIN_ITEMS}
use Rattle.btree_view.specs.View.{View, leaf, internal, NodeMap}
use Rattle.btree_laws.specs.Lists.{one, total}

-- the most items of a node that is `height` levels above the leaves
abbrev pub most_at : ℕ → ℕ
most_at zero = MAX_LEAF_ITEMS
most_at (suc height) = MAX_INTERNAL_ITEMS

-- a node of this size has at least `low` items and at most `most_at height`
abbrev pub IsFilled : (low height size : ℕ) → Type 0
IsFilled low height size = (low ≤ size) × (size ≤ most_at height)

module _ (A : Type 0) where
  -- a leaf: its number and its items; with levels below: the number of the subtree's root, the first child, and the
  -- items, each with the child after it
  abbrev pub Subtree : ℕ → Type 0
  Subtree zero = ℕ × List A
  Subtree (suc height) = ℕ × Subtree height × List (A × Subtree height)

  -- the number of the subtree's root
  abbrev pub id_of : (height : ℕ) → Subtree height → ℕ
  id_of zero subtree = subtree.0
  id_of (suc height) subtree = subtree.0

  -- the items in order
  abbrev pub items_under : (height : ℕ) → Subtree height → List A
  items_under zero subtree = subtree.1
  items_under (suc height) subtree = items_under height subtree.1 ++ flat_map (λ b. b.0 ∷ items_under height b.1) subtree.2

  -- the items of branches: each item, and then those of the child after it
  abbrev pub later_items : (height : ℕ) → List (A × Subtree height) → List A
  later_items height branches = flat_map (λ b. b.0 ∷ items_under height b.1) branches

  -- how often n is among the numbers of the subtree
  abbrev pub times_under : (height : ℕ) → ℕ → Subtree height → ℕ
  times_under zero n subtree = one n subtree.0
  times_under (suc height) n subtree =
      one n subtree.0 + (times_under height n subtree.1 + total (λ b. times_under height n b.1) subtree.2)

  -- the subtree's root as a node under a parent
  abbrev pub view_at : (height : ℕ) → Option ℕ → Subtree height → View A
  view_at zero parent subtree = leaf parent subtree.1
  view_at (suc height) parent subtree =
      internal parent (id_of height subtree.1) (map (λ b. (b.0, id_of height b.1)) subtree.2)

  -- the nodes of the subtree are under their numbers, and each names the one above it as its parent
  abbrev pub Holds : NodeMap A → (height : ℕ) → Option ℕ → Subtree height → Type 0
  Holds node_at zero parent subtree = node_at subtree.0 ≡ Some (leaf parent subtree.1)
  Holds node_at (suc height) parent subtree =
      (node_at subtree.0 ≡ Some (view_at (suc height) parent subtree)) × Holds node_at height (Some subtree.0) subtree.1
      × AllByRecursion (λ b. Holds node_at height (Some subtree.0) b.1) subtree.2

  -- how many items the subtree's root has
  abbrev pub count_at : (height : ℕ) → Subtree height → ℕ
  count_at zero subtree = length subtree.1
  count_at (suc height) subtree = length subtree.2

  -- each node below the subtree's root has its number of items
  abbrev pub IsFilledBelow : (height : ℕ) → Subtree height → Type 0
  IsFilledBelow zero subtree = Unit {0}
  IsFilledBelow (suc height) subtree =
      IsFilled MIN_ITEMS height (count_at height subtree.1) × IsFilledBelow height subtree.1
      × AllByRecursion (λ b. IsFilled MIN_ITEMS height (count_at height b.1) × IsFilledBelow height b.1) subtree.2
