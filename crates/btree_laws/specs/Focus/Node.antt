-- A node of a well formed tree, and a node that may have one item too many or one too few.
use Rattle.std.specs.Prelude.{ℕ, suc, ◌≤◌, List, []}
use Rattle.btree_view.specs.View.{NodeMap}
use Rattle.btree_laws.specs.Focus.Subtree.{most_at, IsFilled, count_at}
use Rattle.btree_laws.specs.Focus.Path.{least_at}
use Rattle.btree_laws.specs.Focus.Focus.{HasFocus}

-- each node of the tree has its number of items, and the focus is at node `id`
pub record IsNode (A : Type 0) (node_at : NodeMap A) (root : ℕ) (xs : List A) (id : ℕ) : Type 0 where
  pub focus : HasFocus A node_at [] root xs id
  pub sized : IsFilled (least_at focus.path) focus.height (count_at A focus.height focus.subtree)

-- each other node has its number of items, and node `id` may have one item too many or one too few
pub record IsExemptNode (A : Type 0) (node_at : NodeMap A) (root : ℕ) (xs : List A) (id : ℕ) : Type 0 where
  pub focus : HasFocus A node_at [] root xs id
  pub low : least_at focus.path ≤ suc (count_at A focus.height focus.subtree)
  pub high : count_at A focus.height focus.subtree ≤ suc (most_at focus.height)
