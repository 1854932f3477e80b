-- How many nodes an insertion at a node uses, and how many levels are above a node, computed from the nodes as they
-- are.
-- A leaf of at least 8 items and an internal node of at least 7 are full. `split_need` counts the full nodes from a
-- node upward without a gap, and one more if the last of them is the root. `need` is that count at a leaf, and 1 for
-- the empty tree. Contracts cite them of a state, as `nodes_for_splits` and `nodes_needed` (`TreeState`).
use Rattle.std.specs.Prelude.{ℕ, zero, suc, nat_lt, if◌then◌else◌, Option, Some, None}
use Rattle.btree_view.specs.View.{View, NodeMap, parent_of, size_of, most_of}

-- for a node that is split: one for its right part and what its parent needs, or two if it is the root
abbrev pub need_of_split : (ℕ → ℕ) → (parent : Option ℕ) → ℕ
need_of_split above None = 2
need_of_split above (Some parent) = suc (above parent)

-- a node with room for an item needs none; any other is split
abbrev pub split_need_in : {A : Type 0} → (ℕ → ℕ) → Option (View A) → ℕ
split_need_in above None = 0
split_need_in above (Some node) = if nat_lt (size_of node) (most_of node) then 0 else need_of_split above (parent_of node)

-- how many nodes the splits from node `id` upward use, if it is full or overflows: the number of consecutive nodes from
-- there upward that have at least as many items as they may, and one more if the last of them is the root; at most
-- `most` levels are counted
abbrev pub split_need : {A : Type 0} → NodeMap A → (most : ℕ) → (id : ℕ) → ℕ
split_need node_at zero id = 0
split_need node_at (suc most) id = split_need_in (split_need node_at most) (node_at id)

-- how many nodes an insertion at node `id` uses in a tree of at most `most` levels; an empty tree uses its first node
abbrev pub need : {A : Type 0} → NodeMap A → (root : Option ℕ) → (most : ℕ) → (id : ℕ) → ℕ
need node_at None most id = 1
need node_at (Some root) most id = split_need node_at most id

-- how many levels are above a node, by the parents; at most `most` are counted
abbrev pub levels_up : (ℕ → ℕ) → Option ℕ → ℕ
levels_up above None = 0
levels_up above (Some parent) = suc (above parent)

abbrev pub levels_over : {A : Type 0} → (ℕ → ℕ) → Option (View A) → ℕ
levels_over above None = 0
levels_over above (Some node) = levels_up above (parent_of node)

abbrev pub levels_above : {A : Type 0} → NodeMap A → (most : ℕ) → (id : ℕ) → ℕ
levels_above node_at zero id = 0
levels_above node_at (suc most) id = levels_over (levels_above node_at most) (node_at id)
