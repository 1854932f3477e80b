-- An underflow fix that goes upward: one step of it between two siblings, and what is then known of an address that is
-- followed.
-- Read `EndsUnderflow` and `PassesUnderflowUp` first: after the step the tree is repaired, or the parent may have an
-- item too few. What a step requires is `AreAdjacent` with `Underflows`, and for a merge `FitTogether`. `IsFixingOf`
-- and `FixesUnderflowUpward` are what `fix_underflow_upward` requires and ensures. The words with `siblings` in their
-- names find the siblings of a node.
use Rattle.std.specs.Prelude.{◌-◌, ◌*◌, ◌≡◌, ℕ, suc, ◌+◌, ◌<◌, ◌≤◌, ◌⊎◌, List, length, Option, Some, None, option_map, Bool, true, false}
use Rattle.btree_item.specs.declared.TheConstants.{MIN_ITEMS}
use Rattle.btree_item.specs.Address.{Address}
use Rattle.btree_view.specs.View.{View, NodeMap, children_of, parent_of, size_of}
use Rattle.btree_raw.specs.declared.moved.siblings.Siblings.{Siblings}
use Rattle.btree_laws.specs.Focus.Overflow.{IsRepaired}
use Rattle.btree_laws.specs.UnderflowFix.{Borrows, IsUnderflowFixed, MergesNode, NoneSpares, child_at}
use Rattle.btree_laws.specs.Need.{levels_above}
use Rattle.btree_laws.specs.Place.{IsPlace, IsValid}
use Rattle.btree_laws.specs.Lists.{one, times_listed}
use Rattle.btree_laws.specs.Focus.Underflow.{MayUnderflowAt}
use Rattle.btree_laws.specs.TreeState.{TreeState, node_map}
use Rattle.btree_laws.specs.WellFormed.{IsFormed, times_used}

-- two adjacent children of `parent`, if both are there
abbrev pub siblings_of : (parent index : ℕ) → (left right : Option ℕ) → Option Siblings
siblings_of parent index (Some left) (Some right) = Some (record { parent = parent; index = index; left = left; right = right })
siblings_of parent index (Some left) None = None
siblings_of parent index None right = None

module _ {A : Type 0} (node_at : NodeMap A) where
  -- node `id` has an item too few
  pub record Underflows (id : ℕ) : Type 0 where
    pub node : View A
    pub here : node_at id ≡ Some node
    pub few : size_of node ≤ MIN_ITEMS - 1

  -- the two siblings have at most five items together, so that they fit into one node with one item more
  pub record FitTogether (siblings : Siblings) : Type 0 where
    pub low : View A
    pub high : View A
    pub at_left : node_at siblings.left ≡ Some low
    pub at_right : node_at siblings.right ≡ Some high
    pub few : size_of low + size_of high ≤ 2 * MIN_ITEMS - 1

  -- node `id` is one of the children of node `parent`
  pub record IsChild (parent id : ℕ) : Type 0 where
    pub node : View A
    pub here : node_at parent ≡ Some node
    pub child : 0 < times_listed id (children_of node)

  -- the children of `parent` at an index and at the next one, if both are there
  abbrev pub siblings_at : (parent index : ℕ) → Option Siblings
  siblings_at parent index = siblings_of parent index (child_at node_at parent index) (child_at node_at parent (suc index))

  -- node `id` is a child of `parent`; `before` is the pair of the child before it and `id`, `after` that of `id` and
  -- the child after it, if there are such children
  pub record HasSiblings (parent id : ℕ) (before after : Option Siblings) : Type 0 where
    pub index : ℕ
    pub child : child_at node_at parent index ≡ Some id
    pub after_is : after ≡ siblings_at parent index
    pub before_is : (k : ℕ) → index ≡ suc k → before ≡ siblings_at parent k
    pub first : index ≡ 0 → before ≡ None

  -- node `id` of a tree with some root may have an item too few, and an address is followed
  pub record IsFollowed (id : ℕ) (a : Address) : Type 0 where
    pub root : ℕ
    pub xs : List A
    pub expected : Option A
    pub place : ℕ
    pub freed : ℕ
    pub bound : ℕ
    pub underflow : MayUnderflowAt A node_at root xs id expected a place freed bound

  -- the two are children of their parent, with its item at the index between them; node `id`, one of the two, may have
  -- an item too few, and an address is followed
  pub record AreAdjacent (siblings : Siblings) (id : ℕ) (a : Address) : Type 0 where
    pub at_left : child_at node_at siblings.parent siblings.index ≡ Some siblings.left
    pub at_right : child_at node_at siblings.parent (suc siblings.index) ≡ Some siblings.right
    pub one_of : (id ≡ siblings.left) ⊎ (id ≡ siblings.right)
    pub under : option_map parent_of (node_at id) ≡ Some (Some siblings.parent)
    pub followed : IsFollowed id a

  -- whatever held of the tree and of address `a` holds with address `b`, and each node has its number of items
  pub record EndsUnderflow (new : NodeMap A) (id : ℕ) (a b : Address) : Type 0 where
    pub repaired : (root : ℕ) (xs : List A) (expected : Option A) (place freed bound : ℕ)
        → MayUnderflowAt A node_at root xs id expected a place freed bound → IsRepaired A new root xs expected b place freed bound
    pub used : (n : ℕ) → times_used (new n) ≡ times_used (node_at n)

  -- the same, except that one node is freed and that the parent, which has fewer levels above it, may have an item too
  -- few
  pub record PassesUnderflowUp (new : NodeMap A) (id parent : ℕ) (a b : Address) : Type 0 where
    pub underflow : (root : ℕ) (xs : List A) (expected : Option A) (place freed bound : ℕ)
        → MayUnderflowAt A node_at root xs id expected a place freed bound
        → MayUnderflowAt A new root xs parent expected b place (suc freed) bound
        × (levels_above new (length xs) parent < levels_above node_at (length xs) id)
    pub removed : ℕ
    pub used : (n : ℕ) → times_used (node_at n) ≡ times_used (new n) + one n removed

module _ {K V : Type 0} (old new : TreeState K V) where
  -- a step at node `id` that freed no node is the last one
  abbrev pub EndsHere : (id : ℕ) → Address → Address × Bool → Type 0
  EndsHere id a end = end.1 ≡ false → EndsUnderflow (node_map old) (node_map new) id a end.0

  -- after a step at node `id` that freed a node, the parent is next
  abbrev pub GoesUp : (parent id : ℕ) → Address → Address × Bool → Type 0
  GoesUp parent id a end = end.1 ≡ true → PassesUnderflowUp (node_map old) (node_map new) id parent a end.0

  -- after a step between these two, their parent is next, whichever of them had an item too few
  abbrev pub GoesUpFromEither : Siblings → (a b : Address) → Type 0
  GoesUpFromEither siblings a b = (id : ℕ) → AreAdjacent (node_map old) siblings id a → PassesUnderflowUp (node_map old) (node_map new) id siblings.parent a b

  -- if no child after these two has an item to spare, the right one has borrowed in the order of `UnderflowFix`
  abbrev pub BorrowsFromLeft : Siblings → Type 0
  BorrowsFromLeft siblings = NoneSpares (node_map old) siblings.parent (suc (suc siblings.index))
      → Borrows (node_map old) (node_map new) siblings.parent siblings.right

  -- if no child after these two has an item to spare, the right one has been merged in the order of `UnderflowFix`
  abbrev pub MergesWithLeft : Siblings → Type 0
  MergesWithLeft siblings = NoneSpares (node_map old) siblings.parent (suc (suc siblings.index))
      → MergesNode (node_map old) (node_map new) siblings.parent siblings.right

-- a well formed tree under this root, with the address at its place; or the empty tree, in which every address is
-- nowhere
abbrev pub IsRepairedOrEmpty : {A : Type 0} → NodeMap A → (root : Option ℕ) → List A → (expected : Option A) → Address → (place freed bound : ℕ) → Type 0
IsRepairedOrEmpty {A} node_at (Some top) xs expected a place freed bound = IsRepaired A node_at top xs expected a place freed bound
IsRepairedOrEmpty node_at None xs expected a place freed bound =
    IsFormed node_at None xs × IsValid node_at None a.id a.offset × IsPlace node_at None xs a.id a.offset place × (freed ≤ bound)

module _ {A : Type 0} (node_at : NodeMap A) where
  -- node `id` of the tree with this root may have an item too few, and an address is followed
  pub record IsFixing (root : Option ℕ) (id : ℕ) (a : Address) : Type 0 where
    pub followed : IsFollowed node_at id a
    pub at_root : root ≡ Some followed.root

  -- the same for a tree of `count` items
  pub record IsFixingOf (root : Option ℕ) (id : ℕ) (a : Address) (count : ℕ) : Type 0 where
    pub fixing : IsFixing root id a
    pub items : length fixing.followed.xs ≡ count

  -- the result of an underflow fix upward: whatever held of the tree and of address `a` holds of the tree under the new
  -- root and of address `b`, no node underflows, and the nodes in `removed` were freed, at most as many as there are
  -- levels from node `id` up to the root; the steps are those of `IsUnderflowFixed`, in their order
  pub record AreFixed (new : NodeMap A) (root new_root : Option ℕ) (id : ℕ) (a b : Address) : Type 0 where
    pub removed : List ℕ
    pub counted : (n : ℕ) → times_used (node_at n) ≡ times_used (new n) + times_listed n removed
    pub fixed : (top : ℕ) (xs : List A) (expected : Option A) (place freed bound : ℕ) → root ≡ Some top
        → MayUnderflowAt A node_at top xs id expected a place freed bound → IsRepairedOrEmpty new new_root xs expected b place (freed + length removed) bound
    pub few : (top : ℕ) (xs : List A) (expected : Option A) (place freed bound : ℕ) → root ≡ Some top
        → MayUnderflowAt A node_at top xs id expected a place freed bound
        → length removed ≤ suc (levels_above node_at (length xs) id)
    pub steps : (top : ℕ) → root ≡ Some top → IsUnderflowFixed node_at new top new_root id

-- the same for the whole tree: nothing but its nodes and its root has changed
pub record FixesUnderflowUpward {K V : Type 0} (old new : TreeState K V) (id : ℕ) (a b : Address) : Type 0 where
  pub fixed : AreFixed (node_map old) (node_map new) old.root new.root id a b
  pub len : new.len ≡ old.len
  pub uncounted : new.kept ≡ old.kept
