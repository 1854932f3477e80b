-- The checks of one node, and which fault they answer.
use Rattle.std.specs.Prelude.{◌≡◌, ◌⊎◌, ⊤, ℕ, ◌<◌, ◌≤◌, ◌-◌, Bool, true, false, IsFalse, IsTrue, IfSome, List, [], ◌∷◌, length, slice_get, Option, Some, None, option_copied, Result, Ok, Err}
use Rattle.std.specs.Borrow.{Bor}
use Rattle.std.specs.List.Sorted.{IsStrictlySortedBy}
use Rattle.std.specs.Map.{keys_of}
use Rattle.std.specs.declared.cmp.Ordering.{Ordering}
use Rattle.std.specs.declared.cmp.Ordering.TheVariants.{Less}
use Rattle.btree_item.specs.declared.TheConstants.{MIN_ITEMS}
use Rattle.btree_item.specs.declared.fault.Fault.{Fault}
use Rattle.btree_item.specs.declared.fault.Fault.TheVariants.{NoNode, WrongParent, Overflowing, Underflowing, EmptyRoot, Unsorted, BelowSeparator, AboveSeparator, TooDeep, NotBalanced, WrongLength, Unreachable, OverLimit}
use Rattle.btree_view.specs.View.{View, items_of, most_of, parent_of}

-- the answer to checks that are done in order: the fault of the first that fails, or Ok
abbrev pub FirstFailed : (Fault → Type 0) → List Fault → Result ⊤ Fault → Type 0
FirstFailed Passes [] answer = answer ≡ Ok tt
FirstFailed Passes (fault ∷ later) answer =
    ((Passes fault → ⊥) × (answer ≡ Err fault)) ⊎ (Passes fault × FirstFailed Passes later answer)

-- the faults of one node, in the order of their checks
abbrev pub node_faults : List Fault
node_faults = WrongParent ∷ Overflowing ∷ Underflowing ∷ EmptyRoot ∷ Unsorted ∷ BelowSeparator ∷ AboveSeparator ∷ []

module _ {K : Type 0} where
  -- a node with neither separator is judged as the root
  abbrev pub is_judged_as_root : (min max : Option K) → Bool
  is_judged_as_root None None = true
  is_judged_as_root None (Some k) = false
  is_judged_as_root (Some k) max = false

  -- the first key, if there is one, is above the separator, if there is one
  abbrev pub BeginsAbove : (K → K → Ordering) → Option K → List K → Type 0
  BeginsAbove cmp min keys = IfSome min (λ m. IfSome (slice_get keys 0) (λ k. cmp m k ≡ Less))

  -- the last key, if there is one, is below the separator, if there is one
  abbrev pub EndsBelow : (K → K → Ordering) → Option K → List K → Type 0
  EndsBelow cmp max keys = IfSome max (λ m. IfSome (slice_get keys (length keys - 1)) (λ k. cmp k m ≡ Less))

  module _ (cmp : K → K → Ordering) (parent : Option ℕ) (min max : Option K) where
    -- the check of a fault passes for a node's own parent, the most items it may have, and its keys
    abbrev pub PassesCheck : Option ℕ → ℕ → List K → Fault → Type 0
    PassesCheck own most keys WrongParent = own ≡ parent
    PassesCheck own most keys Overflowing = length keys ≤ most
    PassesCheck own most keys Underflowing = IsFalse (is_judged_as_root min max) → MIN_ITEMS ≤ length keys
    PassesCheck own most keys EmptyRoot = IsTrue (is_judged_as_root min max) → 0 < length keys
    PassesCheck own most keys Unsorted = IsStrictlySortedBy cmp keys
    PassesCheck own most keys BelowSeparator = BeginsAbove cmp min keys
    PassesCheck own most keys AboveSeparator = EndsBelow cmp max keys
    PassesCheck own most keys NoNode = ⊤
    PassesCheck own most keys TooDeep = ⊤
    PassesCheck own most keys NotBalanced = ⊤
    PassesCheck own most keys WrongLength = ⊤
    PassesCheck own most keys Unreachable = ⊤
    PassesCheck own most keys OverLimit = ⊤

    -- the answer for keys that a node has, with its parent and the most items it may have
    abbrev pub IsKeysVerdict : Option ℕ → ℕ → List K → Result ⊤ Fault → Type 0
    IsKeysVerdict own most keys answer = FirstFailed (PassesCheck own most keys) node_faults answer

    -- the answer for a node
    abbrev pub IsNodeVerdict : {V : Type 0} → View (K × V) → Result ⊤ Fault → Type 0
    IsNodeVerdict node answer = IsKeysVerdict (parent_of node) (most_of node) (keys_of (items_of node)) answer

module _ {K : Type 0} (cmp : K → K → Ordering) (parent : Option ℕ) (min max : Option (Bor K)) where
  -- the same two answers, where references lead to the separators
  abbrev pub GivesKeysVerdict : Option ℕ → ℕ → List K → Result ⊤ Fault → Type 0
  GivesKeysVerdict own most keys answer = IsKeysVerdict cmp parent (option_copied min) (option_copied max) own most keys answer

  abbrev pub GivesNodeVerdict : {V : Type 0} → View (K × V) → Result ⊤ Fault → Type 0
  GivesNodeVerdict node answer = IsNodeVerdict cmp parent (option_copied min) (option_copied max) node answer
