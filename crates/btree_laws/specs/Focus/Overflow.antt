-- The states of a split upward, with the address that is followed and the bound that the strain gives.
use Rattle.std.specs.Prelude.{◌≡◌, ℕ, suc, ◌+◌, ◌≤◌, List, length, Option}
use Rattle.btree_item.specs.Address.{Address}
use Rattle.btree_view.specs.View.{NodeMap}
use Rattle.btree_laws.specs.Focus.Subtree.{most_at, count_at}
use Rattle.btree_laws.specs.Focus.Path.{least_at}
use Rattle.btree_laws.specs.Focus.Focus.{HasFocus}
use Rattle.btree_laws.specs.Focus.Node.{IsNode}
use Rattle.btree_laws.specs.Focus.Need.{path_need}
use Rattle.btree_laws.specs.Focus.Positions.{IsAt, all_positions}
use Rattle.btree_laws.specs.Focus.Strain.{strain_of}

-- node `id` may have one item too many, and `spare` has a number for each node that its splits use; address `a` has
-- this place, and the item `expected` is at it if one is expected; the nodes allocated so far and the strain are at
-- most `bound`
pub record MayOverflowAt (A : Type 0) (node_at : NodeMap A) (root : ℕ) (xs : List A) (id : ℕ) (spare : List ℕ)
    (expected : Option A) (a : Address) (place allocated bound : ℕ) : Type 0 where
  pub focus : HasFocus A node_at spare root xs id
  pub low : least_at focus.path ≤ count_at A focus.height focus.subtree
  pub high : count_at A focus.height focus.subtree ≤ suc (most_at focus.height)
  pub enough : count_at A focus.height focus.subtree ≡ suc (most_at focus.height) → length spare ≡ path_need focus.path
  pub none : count_at A focus.height focus.subtree ≤ most_at focus.height → length spare ≡ 0
  pub there : IsAt expected a (all_positions A focus.height focus.path focus.subtree) place
  pub within_strain : allocated + strain_of A focus.height focus.path focus.subtree ≤ bound

-- each node has its number of items: the end of a split upward, and of an underflow fix upward
pub record IsRepaired (A : Type 0) (node_at : NodeMap A) (root : ℕ) (xs : List A)
    (expected : Option A) (a : Address) (place allocated bound : ℕ) : Type 0 where
  pub id : ℕ
  pub node : IsNode A node_at root xs id
  pub there : IsAt expected a (all_positions A node.focus.height node.focus.path node.focus.subtree) place
  pub within_strain : allocated + strain_of A node.focus.height node.focus.path node.focus.subtree ≤ bound
