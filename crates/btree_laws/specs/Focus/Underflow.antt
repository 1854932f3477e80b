-- The state of an underflow fix that goes upward, with the address that is followed and the bound that the strain
-- gives.
-- Every node but `id` has its number of items. The debt is 1 for a root without items, else 0. The fix ends in
-- `IsRepaired` (`Overflow.antt`), as splits do, where each node has its number of items, or in the empty tree.
use Rattle.std.specs.Prelude.{ℕ, zero, suc, ◌+◌, ◌≤◌, List, [], Option}
use Rattle.btree_item.specs.Address.{Address}
use Rattle.btree_view.specs.View.{NodeMap}
use Rattle.btree_laws.specs.Focus.Subtree.{most_at, count_at}
use Rattle.btree_laws.specs.Focus.Path.{Path, top, under, least_at}
use Rattle.btree_laws.specs.Focus.Focus.{HasFocus}
use Rattle.btree_laws.specs.Focus.Positions.{IsAt, all_positions}
use Rattle.btree_laws.specs.Focus.Strain.{strain_of}

-- the debt of the fix: 1 for a root without items, which is still to be freed, else 0
abbrev pub debt : {A : Type 0} {height : ℕ} → Path A height → (count : ℕ) → ℕ
debt top zero = 1
debt top (suc count) = 0
debt (under frame path) count = 0

-- node `id` may have one item too few; address a has this place, and the item `expected` is at it if one is expected;
-- the nodes freed so far, the strain and the debt are at most `bound`
pub record MayUnderflowAt (A : Type 0) (node_at : NodeMap A) (root : ℕ) (xs : List A) (id : ℕ)
    (expected : Option A) (a : Address) (place freed bound : ℕ) : Type 0 where
  pub focus : HasFocus A node_at [] root xs id
  pub low : least_at focus.path ≤ suc (count_at A focus.height focus.subtree)
  pub high : count_at A focus.height focus.subtree ≤ most_at focus.height
  pub there : IsAt expected a (all_positions A focus.height focus.path focus.subtree) place
  pub within_strain : freed + (strain_of A focus.height focus.path focus.subtree + debt focus.path (count_at A focus.height focus.subtree))
      ≤ bound
