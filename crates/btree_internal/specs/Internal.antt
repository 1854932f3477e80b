-- An internal node as contracts see it.
use Rattle.std.specs.Prelude.{ℕ, List, length, map, Option, Some}
use Rattle.std.specs.declared.cmp.Ordering.{Ordering}
use Rattle.btree_item.specs.Comparisons.{comparisons}
use Rattle.btree_item.specs.Pairs.{before}
use Rattle.btree_item.specs.declared.item.Item.{Item}
use Rattle.btree_view.specs.Edits.{PopsLeft, PopsRight}
use Rattle.btree_view.specs.View.{View, internal}
use Rattle.btree_internal.specs.declared.internal.Branch.{Branch}

-- the number of the parent, if there is one, the number of the first child, and the items in order, each with the
-- number of the child after it
pub record Internal (K V : Type 0) : Type 0 where
  pub parent : Option ℕ
  pub first : ℕ
  pub branches : List (Item K V × ℕ)

-- an internal node as a node of the tree
abbrev pub internal_view : {K V : Type 0} → Internal K V → View (K × V)
internal_view n = internal n.parent n.first n.branches

-- the node is the rest with this item and this child before its own
abbrev pub InternalPopsLeft : {K V : Type 0} → Internal K V → Internal K V → Item K V × ℕ → Type 0
InternalPopsLeft node rest popped = PopsLeft (internal_view node) (internal_view rest) (popped.0, Some popped.1)

-- the node is the rest with this item and this child after its own
abbrev pub InternalPopsRight : {K V : Type 0} → Internal K V → Internal K V → Option ℕ × Item K V × ℕ → Type 0
InternalPopsRight node rest popped = PopsRight (internal_view node) (internal_view rest) (popped.0, popped.1, Some popped.2)

-- an index and a child, in the form of the results of `offset_in`
abbrev pub gap_with_child : ℕ × ℕ → ℕ × Option ℕ
gap_with_child gap = (gap.0, Some gap.1)

-- a branch as its item and its child
abbrev pub branch_pair : {K V : Type 0} → Branch K V → Item K V × ℕ
branch_pair b = (b.item, b.child)

-- how many keys a search in branches compares
abbrev pub comparisons_in_branches : {K Q V : Type 0} → (K → Q → Ordering) → Q → List (Branch K V) → ℕ
comparisons_in_branches cmp k branches = comparisons (length branches) (before cmp k (map (λ b. b.item) branches))
