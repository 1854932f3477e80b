-- The path from a subtree up to the root: each node above the subtree, with the subtrees of its other children. A path
-- and the subtree at its end are the whole tree.
use Rattle.std.specs.Prelude.{◌≡◌, ℕ, suc, ◌+◌, List, [], ◌∷◌, ◌++◌, length, map, Option, Some, None}
use Rattle.std.specs.List.{AllByRecursion}
use Rattle.btree_item.specs.declared.TheConstants.{MIN_ITEMS}
use Rattle.btree_view.specs.View.{View, internal, NodeMap}
use Rattle.btree_laws.specs.Lists.{one, total}
use Rattle.btree_laws.specs.Focus.Subtree.{Subtree, id_of, items_under, later_items, times_under, Holds, count_at, IsFilled, IsFilledBelow}

-- a node without one of its children, the hole: the first child, or one after an item
pub data Frame (A : Type 0) (height : ℕ) : Type 0 where
  at_first : ℕ → List (A × Subtree A height) → Frame A height
  at_branch : ℕ → Subtree A height → List (A × Subtree A height) → A → List (A × Subtree A height) → Frame A height

-- the nodes above a hole, up to the root
pub data Path (A : Type 0) : ℕ → Type 0 where
  top : {height : ℕ} → Path A height
  under : {height : ℕ} → Frame A height → Path A (suc height) → Path A height

module _ {A : Type 0} {height : ℕ} where
  -- a node with the child in its place
  abbrev pub fill : Frame A height → Subtree A height → Subtree A (suc height)
  fill (at_first id back) subtree = (id, subtree, back)
  fill (at_branch id first front x back) subtree = (id, first, front ++ (x, subtree) ∷ back)

  -- a node with two children in the place of the one, and an item between them
  abbrev pub fill_two : Frame A height → Subtree A height → A → Subtree A height → Subtree A (suc height)
  fill_two (at_first id back) left x right = (id, left, (x, right) ∷ back)
  fill_two (at_branch id first front y back) left x right = (id, first, front ++ (y, left) ∷ (x, right) ∷ back)

  abbrev pub frame_id : Frame A height → ℕ
  frame_id (at_first id back) = id
  frame_id (at_branch id first front x back) = id

  -- the index of the hole among the node's children
  abbrev pub frame_index : Frame A height → ℕ
  frame_index (at_first id back) = 0
  frame_index (at_branch id first front x back) = length front + 1

  -- how many items the node has
  abbrev pub frame_count : Frame A height → ℕ
  frame_count (at_first id back) = length back
  frame_count (at_branch id first front x back) = length front + suc (length back)

  -- the items under the node before the hole, and after it
  abbrev pub before_in : Frame A height → List A
  before_in (at_first id back) = []
  before_in (at_branch id first front x back) = (items_under A height first ++ later_items A height front) ++ x ∷ []

  abbrev pub after_in : Frame A height → List A
  after_in (at_first id back) = later_items A height back
  after_in (at_branch id first front x back) = later_items A height back

  -- how often n is among the numbers of the hole's siblings and of the nodes below them; and the same with the node's
  -- own
  abbrev pub times_in_siblings : ℕ → Frame A height → ℕ
  times_in_siblings n (at_first id back) = total (λ b. times_under A height n b.1) back
  times_in_siblings n (at_branch id first front x back) =
      times_under A height n first + total (λ b. times_under A height n b.1) front
      + total (λ b. times_under A height n b.1) back

  abbrev pub times_in : ℕ → Frame A height → ℕ
  times_in n frame = one n (frame_id frame) + times_in_siblings n frame

  -- the node itself, with `hole` as the number of the hole
  abbrev pub frame_view : Option ℕ → Frame A height → ℕ → View A
  frame_view parent (at_first id back) hole = internal parent hole (map (λ b. (b.0, id_of A height b.1)) back)
  frame_view parent (at_branch id first front x back) hole =
      internal parent (id_of A height first)
      (map (λ b. (b.0, id_of A height b.1)) front ++ (x, hole) ∷ map (λ b. (b.0, id_of A height b.1)) back)

  -- the hole's siblings and the nodes below them are under their numbers
  abbrev pub SiblingsHold : NodeMap A → Frame A height → Type 0
  SiblingsHold node_at (at_first id back) = AllByRecursion (λ b. Holds A node_at height (Some id) b.1) back
  SiblingsHold node_at (at_branch id first front x back) =
      Holds A node_at height (Some id) first × AllByRecursion (λ b. Holds A node_at height (Some id) b.1) front
      × AllByRecursion (λ b. Holds A node_at height (Some id) b.1) back

  -- each sibling of the hole has its number of items, and so has each node below them
  abbrev pub SiblingsFilled : Frame A height → Type 0
  SiblingsFilled (at_first id back) =
      AllByRecursion (λ b. IsFilled MIN_ITEMS height (count_at A height b.1) × IsFilledBelow A height b.1) back
  SiblingsFilled (at_branch id first front x back) =
      IsFilled MIN_ITEMS height (count_at A height first) × IsFilledBelow A height first
      × AllByRecursion (λ b. IsFilled MIN_ITEMS height (count_at A height b.1) × IsFilledBelow A height b.1) front
      × AllByRecursion (λ b. IsFilled MIN_ITEMS height (count_at A height b.1) × IsFilledBelow A height b.1) back

-- the number of the node above the hole, if there is one
abbrev pub parent_above : {A : Type 0} {height : ℕ} → Path A height → Option ℕ
parent_above top = None
parent_above (under frame path) = Some (frame_id frame)

-- the items of the whole tree before the hole, and after it
abbrev pub items_before : {A : Type 0} {height : ℕ} → Path A height → List A
items_before top = []
items_before (under frame path) = items_before path ++ before_in frame

abbrev pub items_after : {A : Type 0} {height : ℕ} → Path A height → List A
items_after top = []
items_after (under frame path) = after_in frame ++ items_after path

-- how often n is among the numbers of the whole tree without those of the hole
abbrev pub times_above : {A : Type 0} {height : ℕ} → ℕ → Path A height → ℕ
times_above n top = 0
times_above n (under frame path) = times_in n frame + times_above n path

-- the nodes of the path, and the subtrees of their other children, are under their numbers
abbrev pub HoldsAbove : {A : Type 0} {height : ℕ} → NodeMap A → Path A height → ℕ → Type 0
HoldsAbove node_at top hole = Unit {0}
HoldsAbove node_at (under frame path) hole =
    (node_at (frame_id frame) ≡ Some (frame_view (parent_above path) frame hole)) × SiblingsHold node_at frame
    × HoldsAbove node_at path (frame_id frame)

-- the fewest items of a node with this path above it
abbrev pub least_at : {A : Type 0} {height : ℕ} → Path A height → ℕ
least_at top = 1
least_at (under frame path) = MIN_ITEMS

-- each node of the path, and each node below its other children, has its number of items
abbrev pub AreFilled : {A : Type 0} {height : ℕ} → Path A height → Type 0
AreFilled top = Unit {0}
AreFilled {A} {height} (under frame path) =
    IsFilled (least_at path) (suc height) (frame_count frame) × SiblingsFilled frame × AreFilled path

-- the root's number, with `hole` as the number of the hole
abbrev pub root_above : {A : Type 0} {height : ℕ} → Path A height → ℕ → ℕ
root_above top hole = hole
root_above (under frame path) hole = root_above path (frame_id frame)

-- how many levels are above the hole
abbrev pub depth : {A : Type 0} {height : ℕ} → Path A height → ℕ
depth top = 0
depth (under frame path) = suc (depth path)
