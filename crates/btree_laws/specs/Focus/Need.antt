-- The nodes that splits need, by the path above a node, and the state of the loop that counts them.
use Rattle.std.specs.Prelude.{◌≡◌, ℕ, suc, ◌+◌, ◌<◌, nat_lt, if◌then◌else◌, List, []}
use Rattle.btree_item.specs.declared.TheConstants.{MAX_INTERNAL_ITEMS}
use Rattle.btree_view.specs.View.{NodeMap}
use Rattle.btree_laws.specs.Focus.Subtree.{Subtree, most_at, count_at, id_of}
use Rattle.btree_laws.specs.Focus.Path.{Path, top, under, frame_count, depth}
use Rattle.btree_laws.specs.Focus.Focus.{IsUnsizedFocus}

-- how many nodes the splits on the path above a node use: for a split at its end, and for an item put into a node of
-- `count` items there
abbrev pub path_need : {A : Type 0} {height : ℕ} → Path A height → ℕ
path_need top = 2
path_need (under frame path) = suc (if nat_lt (frame_count frame) MAX_INTERNAL_ITEMS then 0 else path_need path)

abbrev pub path_need_from : {A : Type 0} {height : ℕ} → Path A height → (count : ℕ) → ℕ
path_need_from {A} {height} path count = if nat_lt count (most_at height) then 0 else path_need path

-- the count of the nodes that the splits use has reached node `id`, with `counted` counted below it; there are at most
-- `most` levels
pub record IsCountingUpward (A : Type 0) (node_at : NodeMap A) (root : ℕ) (xs : List A) (most id counted all : ℕ) : Type 0 where
  pub height : ℕ
  pub path : Path A height
  pub subtree : Subtree A height
  pub here : id_of A height subtree ≡ id
  pub focused : IsUnsizedFocus A node_at [] root xs height path subtree
  pub left : counted + path_need_from path (count_at A height subtree) ≡ all
  pub room : depth path < most
