-- Single steps and their conditions, said of whole trees.
-- `Steps.antt`, `NodeSteps.antt` and `Underflow.antt` define the steps for the map of a tree's nodes. Here they are said
-- of the trees before and after a call.
use Rattle.std.specs.Prelude.{◌≡◌, ℕ, ◌<◌, ◌≤◌, ◌^◌, List, length, Option, Some, option_map}
use Rattle.std.specs.FinMap as map
use Rattle.std.specs.declared.cmp.Ordering.{Ordering}
use Rattle.btree_item.specs.Address.{Address}
use Rattle.btree_node.specs.declared.node.Node.{Node}
use Rattle.btree_node.specs.Node.{view_of}
use Rattle.btree_view.specs.View.{NodeMap, children_in, size_of}
use Rattle.btree_raw.specs.declared.moved.siblings.Siblings.{Siblings}
use Rattle.btree_laws.specs.Moved.{first_in}
use Rattle.btree_laws.specs.Step.{Splits, WritesNode}
use Rattle.btree_laws.specs.TreeState.{TreeState, Changes, node_map, pairs_of}
use Rattle.btree_raw.specs.LastItem.{LosesItem}
use Rattle.btree_raw.specs.NodeSteps.{RotatesSiblingsLeft, RotatesSiblingsRight}
use Rattle.btree_raw.specs.Rebalance.{IsFit, StaysAsIs}
use Rattle.btree_raw.specs.declared.node_changes.Cut.{Cut}
use Rattle.btree_raw.specs.declared.node_changes.NotAdded.TheVariants.{Full, Inner}
use Rattle.btree_raw.specs.declared.node_changes.NotAdded.{NotAdded}
use Rattle.btree_raw.specs.Insertion.{IsFullLeaf}
use Rattle.btree_raw.specs.Steps.{HasCount, IsCutFrom, LeavesPart, MayCut, SplitsUpward}
use Rattle.btree_raw.specs.Underflow.{EndsUnderflow}

module _ {A : Type 0} (node_at : NodeMap A) (id : ℕ) where
  -- node `id` has this first child, or none as a leaf
  abbrev pub HasFirstChild : Option ℕ → Type 0
  HasFirstChild child = option_map first_in (node_at id) ≡ Some child

  -- node `id` has children, as an internal node has
  abbrev pub HasChildren : Type 0
  HasChildren = 0 < length (children_in (node_at id))

-- an item may be inserted into node `id` at this index
abbrev pub IsInsertionIndex : {K V : Type 0} → TreeState K V → (id index : ℕ) → Type 0
IsInsertionIndex {K} {V} tree id index = (node : Node K V) → map.get tree.nodes id ≡ Some node → index ≤ size_of (view_of node)

-- the item came back, since node `id` is a full leaf with this parent, or an internal node
abbrev pub IsNotAdded : {K V : Type 0} → TreeState K V → (id : ℕ) → K × V → NotAdded K V → Type 0
IsNotAdded tree id x (Full back parent) = (back ≡ x) × IsFullLeaf (node_map tree) id parent
IsNotAdded tree id x (Inner back) = (back ≡ x) × HasChildren (node_map tree) id

-- splits may go upward from node `id`, which was cut, of some tree and with some claimed numbers
abbrev pub IsCutFromSome : {K V : Type 0} → (now : TreeState K V) (id : ℕ) (cut : Option (Cut K V)) (rest : List ℕ) (a : Address) → Type 0
IsCutFromSome {K} {V} now id cut rest a = (whole : TreeState K V) × (spare : List ℕ) × IsCutFrom whole now id cut spare rest a

module _ {K V : Type 0} (old new : TreeState K V) where
  -- whatever tree node `id` was cut from, that tree was split upward
  abbrev pub SplitsFromCut : (id : ℕ) (cut : Option (Cut K V)) (rest : List ℕ) (a b : Address) → Type 0
  SplitsFromCut id cut rest a b = (whole : TreeState K V) (spare : List ℕ) → IsCutFrom whole old id cut spare rest a → SplitsUpward whole new id spare a b

  -- node `id` was cut if it had an item too many, and nothing else has changed
  abbrev pub MayCutIn : (id : ℕ) (spare rest : List ℕ) → Option (Cut K V) → Type 0
  MayCutIn id spare rest cut = Changes (λ a b. MayCut a b id spare rest cut) old new

  -- the right part of a node that was cut was put under this number, and nothing else has changed
  abbrev pub PutsPart : (part : Node K V) (placed : ℕ) → Type 0
  PutsPart part placed = Changes (λ a b. WritesNode a b placed (view_of part)) old new

  -- the right part of a node that was cut was placed under this number, so that the node is split
  abbrev pub PlacesPart : (part : Node K V) (spare : List ℕ) (placed : ℕ) → Type 0
  PlacesPart part spare placed = (left : LeavesPart (node_map old) (view_of part) spare) → Splits left.whole (node_map new) left.id placed left.median

  -- the left part keeps its number of items
  abbrev pub KeepsLeftPart : (part : Node K V) (spare : List ℕ) → Type 0
  KeepsLeftPart part spare = (left : LeavesPart (node_map old) (view_of part) spare) → HasCount (node_map new) left.id left.kept

  -- the left sibling has borrowed an item from the right one, and nothing else has changed
  abbrev pub RotatesLeftIn : Siblings → Type 0
  RotatesLeftIn siblings = Changes (λ a b. RotatesSiblingsLeft a b siblings) old new

  -- the right sibling has borrowed an item from the left one, and nothing else has changed
  abbrev pub RotatesRightIn : Siblings → Type 0
  RotatesRightIn siblings = Changes (λ a b. RotatesSiblingsRight a b siblings) old new

  -- the underflow of node `id` has ended
  abbrev pub EndsUnderflowIn : (id : ℕ) (a b : Address) → Type 0
  EndsUnderflowIn id a b = EndsUnderflow (node_map old) (node_map new) id a b

  -- nothing has changed if node `id` has enough items and not too many
  abbrev pub StaysIfFit : (id : ℕ) (a b : Address) → Type 0
  StaysIfFit id a b = IsFit (node_map old) old.root id → StaysAsIs old new a b

  -- the item x of leaf `id` was removed from the list, if the pairs were fewer than 2^64
  abbrev pub LosesItemOfFew : (cmp : K → K → Ordering) (x : K × V) (id : ℕ) → Type 0
  LosesItemOfFew cmp x id = length (pairs_of old) < 2 ^ 64 → LosesItem cmp old new x id
