-- How many levels a tree may have, cited by `height`, and how many comparisons a search makes on them: exactly
-- (`TicksExactly`), and at most (`TicksAtMost`).
use Rattle.std.specs.Prelude.{◌≡◌, ℕ, ◌+◌, ◌*◌, ◌-◌, ◌^◌, ◌<◌, ◌≤◌, zero, suc, length, Option, Some, None, Result, Ok, Err}
use Rattle.std.specs.declared.cmp.Ordering.{Ordering}
use Rattle.btree_item.specs.declared.TheConstants.{MAX_COMPARISONS}
use Rattle.btree_view.specs.LookUp.{comparisons_in, look_up}
use Rattle.btree_view.specs.View.{NodeMap, View}
use Rattle.btree_laws.specs.Focus.Search.{levels_below}
use Rattle.btree_laws.specs.TreeState.{TreeState, HasLevels, node_map, pairs_of}

-- a tree that has pairs has enough of them for its levels: with n pairs, 2*4^(levels-1) is at most n+1
abbrev pub IsDense : {K V : Type 0} → TreeState K V → (levels : ℕ) → Type 0
IsDense tree levels = 0 < tree.len → 2 * 4 ^ (levels - 1) ≤ length (pairs_of tree) + 1

-- a count of comparisons is raised by at most six for each level
abbrev pub TicksAtMost : {K V : Type 0} → TreeState K V → (old new : ℕ) → Type 0
TicksAtMost tree old new = (levels : ℕ) → HasLevels tree levels → new ≤ old + MAX_COMPARISONS * levels

-- how many levels there are from a node down
abbrev pub levels_from : {K V : Type 0} → TreeState K V → (id : ℕ) → ℕ
levels_from tree id = levels_below (node_map tree) (length (pairs_of tree)) id + 1

-- how many keys a search compares below a node, by what the look-up in it returns: none if the key is there
abbrev pub comparisons_after : {A : Type 0} → (below : ℕ → ℕ) → Result A ℕ → ℕ
comparisons_after below (Ok found) = 0
comparisons_after below (Err child) = below child

module _ {K Q V : Type 0} (cmp : K → Q → Ordering) (k : Q) where
  -- how many keys a search compares in a node, if there is one, and below it
  abbrev pub comparisons_at : (below : ℕ → ℕ) → Option (View (K × V)) → ℕ
  comparisons_at below None = 0
  comparisons_at below (Some node) = comparisons_in cmp k node + comparisons_after below (look_up cmp k node)

  -- how many it compares from a node down, on so many levels
  abbrev pub comparisons_below : NodeMap (K × V) → (levels : ℕ) → (id : ℕ) → ℕ
  comparisons_below node_at zero id = 0
  comparisons_below node_at (suc levels) id = comparisons_at (comparisons_below node_at levels) (node_at id)

  -- the same, on all levels from the node down
  abbrev pub comparisons_from : TreeState K V → (id : ℕ) → ℕ
  comparisons_from tree id = comparisons_below (node_map tree) (levels_from tree id) id

  -- how many keys a search in a tree compares: the sum over the nodes on its path
  abbrev pub comparisons_under : TreeState K V → (root : Option ℕ) → ℕ
  comparisons_under tree None = 0
  comparisons_under tree (Some root) = comparisons_from tree root

  -- a count is raised by as many comparisons as a search in a tree makes
  abbrev pub TicksExactly : TreeState K V → (old new : ℕ) → Type 0
  TicksExactly tree old new = new ≡ old + comparisons_under tree tree.root
