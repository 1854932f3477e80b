-- How many items the nodes have, also where a node is exempt, and what else is checked of a node.
-- `is_off_by_one` exempts a node: it may have one item too many or too few. `validate` exempts none.
use Rattle.std.specs.Prelude.{◌≡◌, ℕ, ◌<◌, ◌≤◌, if◌then◌else◌, List, [], ◌∷◌, Option, Some, None}
use Rattle.std.specs.declared.cmp.Ordering.{Ordering}
use Rattle.std.specs.declared.cmp.Ordering.TheVariants.{Less}
use Rattle.btree_item.specs.declared.TheConstants.{MIN_ITEMS}
use Rattle.btree_item.specs.Pairs.{Ascends}
use Rattle.btree_view.specs.Checks.{is_judged_as_root}
use Rattle.btree_view.specs.View.{NodeMap, View, items_of, most_of, parent_of, size_of}
use Rattle.btree_laws.specs.Focus.Subtree.{IsFilled, IsFilledBelow, Subtree, count_at, times_under}
use Rattle.btree_laws.specs.WellFormed.{IsNearlySized}
use Rattle.btree_valid.specs.Faults.{AreBetween}
use Rattle.btree_valid.specs.declared.off_by_one.Exempt.{Exempt}

-- the key is greater than the last one, if there is one
abbrev pub IsAbove : {K : Type 0} → (cmp : K → K → Ordering) → (last : Option K) → K → Type 0
IsAbove cmp None key = Unit {0}
IsAbove cmp (Some last) key = cmp last key ≡ Less

-- each key is greater than the one before it, and the first one than `last`
abbrev pub AscendsFrom : {K V : Type 0} → (cmp : K → K → Ordering) → (last : Option K) → List (K × V) → Type 0
AscendsFrom cmp last [] = Unit {0}
AscendsFrom cmp last (x ∷ xs) = IsAbove cmp last x.0 × AscendsFrom cmp (Some x.0) xs

-- the fewest items of a node between two separators, which is judged as the root without them
abbrev pub least_between : {K : Type 0} → (min max : Option K) → ℕ
least_between min max = if is_judged_as_root min max then 1 else MIN_ITEMS

module _ {K V : Type 0} where
  -- a node has its number of items, as the separators around it decide; where a node is exempt, as its number does
  abbrev pub IsSizedNode : Option Exempt → (min max : Option K) → (id : ℕ) → View (K × V) → Type 0
  IsSizedNode None min max id node = (least_between min max ≤ size_of node) × (size_of node ≤ most_of node)
  IsSizedNode (Some exempt) min max id node = IsNearlySized exempt.root exempt.id id node

  -- so has each node of a part
  abbrev pub AreSized : Option Exempt → (min max : Option K) → NodeMap (K × V) → (height : ℕ) → Subtree (K × V) height → Type 0
  AreSized None min max node_at height part = IsFilled (least_between min max) height (count_at (K × V) height part) × IsFilledBelow (K × V) height part
  AreSized (Some exempt) min max node_at height part =
      (n : ℕ) (node : View (K × V)) → 0 < times_under (K × V) height n part → node_at n ≡ Some node → IsNearlySized exempt.root exempt.id n node

  -- a node passes its checks, under this parent and between these separators
  pub record PassesNode (cmp : K → K → Ordering) (exempt : Option Exempt) (id : ℕ) (parent : Option ℕ) (min max : Option K) (node : View (K × V)) : Type 0 where
    pub parent_is : parent_of node ≡ parent
    pub sized : IsSizedNode exempt min max id node
    pub ascends : Ascends cmp (items_of node)
    pub between : AreBetween cmp min max (items_of node)
