-- What the steps that fix an underflow require of a store's nodes, and what each call leaves.
-- The two siblings are one value, `Siblings` (`moved.rt`). Read bottom-up: each step between two siblings
-- requires `AreSiblings`, as a part of `CanRotateLeft`, `CanRotateRight` or `CanMerge`; the steps leave
-- `RotatesSiblingsLeft`, `RotatesSiblingsRight` and `MergesSiblings`. The earlier definitions are for the single calls of
-- which these steps are made (`src/sibling_steps.rt`), each on one node: what it requires (`HasRoomFor` and others), and what
-- it gains or loses (`GainsFirst`, `LosesFirst` and others). `CanShrinkRoot` is the condition for shrinking the root. All
-- calls that cite these words are private; `src/borrow.rt` cites the steps between siblings.
use Rattle.std.specs.Prelude.{◌≡◌, ◌≢◌, ℕ, ◌+◌, ◌<◌, ◌≤◌, [], ◌∷◌, slice_get, Option, Some, None, IfSome, option_map, IsTrue}
use Rattle.btree_view.specs.View.{View, NodeMap, size_of, most_of, items_of, children_of}
use Rattle.btree_view.specs.Edits.{with_parent, with_other_item, without, joined, pushed_left, pushed_right, is_internal, HasChildFor, HaveRoom}
use Rattle.btree_raw.specs.declared.moved.siblings.Siblings.{Siblings}
use Rattle.btree_laws.specs.Lists.{times_listed}
use Rattle.btree_laws.specs.Moved.{first_in}
use Rattle.btree_laws.specs.SiblingSteps.{Merges, RotatesLeft, RotatesRight}
use Rattle.btree_laws.specs.Step.{Becomes, WritesNode}
use Rattle.btree_laws.specs.WellFormed.{times_used}

module _ {A : Type 0} (node_at : NodeMap A) where
  -- node `id` is an internal node that does not overflow, and has an item at the index
  pub record HasSeparator (id index : ℕ) : Type 0 where
    pub node : View A
    pub here : node_at id ≡ Some node
    pub inner : IsTrue (is_internal node)
    pub most : size_of node ≤ most_of node
    pub within : index < size_of node

  -- node `id` has room for an item, and a child is given exactly if it is an internal node
  pub record HasRoomFor (id : ℕ) (child : Option ℕ) : Type 0 where
    pub node : View A
    pub here : node_at id ≡ Some node
    pub room : size_of node ≤ most_of node
    pub kind : HasChildFor child node

  -- node `id` has room for an item and for all that another node of its kind holds
  pub record HasRoomForAll (id : ℕ) (other : View A) : Type 0 where
    pub node : View A
    pub here : node_at id ≡ Some node
    pub kind : is_internal other ≡ is_internal node
    pub room : HaveRoom node other

  module _ (new : NodeMap A) where
    -- the first item of node `id` was removed, with the first child if it is an internal node; nothing else has changed
    pub record LosesFirst (id : ℕ) (x : A) (child : Option ℕ) : Type 0 where
      pub rest : View A
      pub was : node_at id ≡ Some (pushed_left x child rest)
      pub kind : HasChildFor child rest
      pub writes_node : WritesNode node_at new id rest

    -- the same for the last item and the last child
    pub record LosesLast (id : ℕ) (x : A) (child : Option ℕ) : Type 0 where
      pub rest : View A
      pub was : node_at id ≡ Some (pushed_right x child rest)
      pub kind : HasChildFor child rest
      pub writes_node : WritesNode node_at new id rest

    -- node `id` has the item x at the index in the place of the old one; nothing else has changed
    pub record ChangesSeparator (id index : ℕ) (old x : A) : Type 0 where
      pub node : View A
      pub here : node_at id ≡ Some node
      pub was : slice_get (items_of node) index ≡ Some old
      pub writes_node : WritesNode node_at new id (with_other_item index x node)

    -- node `id` has the item before its others, with the child; nothing else has changed
    pub record GainsFirst (id : ℕ) (x : A) (child : Option ℕ) : Type 0 where
      pub node : View A
      pub here : node_at id ≡ Some node
      pub writes_node : WritesNode node_at new id (pushed_left x child node)

    -- node `id` has the item after its others, with the child; nothing else has changed
    pub record GainsLast (id : ℕ) (x : A) (child : Option ℕ) : Type 0 where
      pub node : View A
      pub here : node_at id ≡ Some node
      pub writes_node : WritesNode node_at new id (pushed_right x child node)

    -- node `id` has the item after its others, and then what the other node held; nothing else has changed
    pub record GainsAll (id : ℕ) (x : A) (other : View A) : Type 0 where
      pub node : View A
      pub here : node_at id ≡ Some node
      pub writes_node : WritesNode node_at new id (joined node x other)

    -- node `id` has lost the item at an index and the child after it; nothing else has changed
    pub record LosesSeparator (id index : ℕ) (x : A) : Type 0 where
      pub node : View A
      pub here : node_at id ≡ Some node
      pub was : slice_get (items_of node) index ≡ Some x
      pub writes_node : WritesNode node_at new id (without index node)

    -- the left sibling has borrowed an item from the right one
    abbrev pub RotatesSiblingsLeft : Siblings → Type 0
    RotatesSiblingsLeft siblings = RotatesLeft node_at new siblings.parent siblings.index siblings.left siblings.right

    -- the right sibling has borrowed an item from the left one
    abbrev pub RotatesSiblingsRight : Siblings → Type 0
    RotatesSiblingsRight siblings = RotatesRight node_at new siblings.parent siblings.index siblings.left siblings.right

    -- the two siblings have been merged
    abbrev pub MergesSiblings : Siblings → Type 0
    MergesSiblings siblings = Merges node_at new siblings.parent siblings.index siblings.left siblings.right

    -- node `id` has no parent; nothing else has changed
    abbrev pub ClearsParent : (id : ℕ) → Type 0
    ClearsParent id = Becomes node_at new id (option_map (with_parent None) (node_at id))

  -- the two are children of their parent, with its item at the index between them, and are of one kind; their children
  -- are there, and are other nodes
  pub record AreSiblings (siblings : Siblings) : Type 0 where
    pub top : View A
    pub low : View A
    pub high : View A
    pub at_parent : node_at siblings.parent ≡ Some top
    pub at_left : node_at siblings.left ≡ Some low
    pub at_right : node_at siblings.right ≡ Some high
    pub inner : IsTrue (is_internal top)
    pub one_kind : is_internal low ≡ is_internal high
    pub within : siblings.index < size_of top
    pub most : size_of top ≤ most_of top
    pub apart : (siblings.left ≢ siblings.right) × (siblings.left ≢ siblings.parent) × (siblings.right ≢ siblings.parent)
    pub children : (n : ℕ) → 0 < times_listed n (children_of low) + times_listed n (children_of high)
        → (0 < times_used (node_at n)) × (n ≢ siblings.parent) × (n ≢ siblings.left) × (n ≢ siblings.right)

  -- the left sibling has room for an item
  pub record CanRotateLeft (siblings : Siblings) : Type 0 where
    pub pair : AreSiblings siblings
    pub room : size_of pair.low ≤ most_of pair.low

  -- the right sibling has room for an item
  pub record CanRotateRight (siblings : Siblings) : Type 0 where
    pub pair : AreSiblings siblings
    pub room : size_of pair.high ≤ most_of pair.high

  -- the two and the item between them fit into one node
  pub record CanMerge (siblings : Siblings) : Type 0 where
    pub pair : AreSiblings siblings
    pub room : HaveRoom pair.low pair.high

  -- the node is there, if a number is given
  abbrev pub IsThere : Option ℕ → Type 0
  IsThere child = IfSome child (λ id. 0 < times_used (node_at id))

  -- node `root` has one child, which is another node
  pub record CanShrinkRoot (root child : ℕ) : Type 0 where
    pub node : View A
    pub here : node_at root ≡ Some node
    pub only : children_of node ≡ child ∷ []
    pub used : 0 < times_used (node_at child)
    pub apart : child ≢ root

  -- if node `root` has a first child, that is its only one, and another node
  abbrev pub CanShrinkToFirst : (root : ℕ) → Type 0
  CanShrinkToFirst root = (child : ℕ) → option_map first_in (node_at root) ≡ Some (Some child) → CanShrinkRoot root child
