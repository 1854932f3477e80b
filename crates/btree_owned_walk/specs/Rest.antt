-- What is left of a tree from which items were taken at both ends, where they lay, without rebalancing.
-- It is a `Subtree` again. A subtree without items is gone: no node is under its number, nor under one below. A child
-- that is gone stays named until the item beside it is taken. So an internal node may have no items and one child.
use Rattle.std.specs.Prelude.{◌≡◌, ℕ, zero, suc, ◌<◌, ◌≤◌, ◌⊎◌, List, [], ◌∷◌, length, Option, Some, None}
use Rattle.std.specs.List.{AllByRecursion}
use Rattle.btree_view.specs.View.{View, leaf, internal, NodeMap, items_of}
use Rattle.btree_laws.specs.Focus.Subtree.{Subtree, items_under, times_under, view_at}

-- a list has an element
abbrev pub HasAny : {X : Type 0} → List X → Type 0
HasAny xs = 0 < length xs

-- a value, if a list has an element
abbrev pub if_any : {X Y : Type 0} → List X → Y → Option Y
if_any [] y = None
if_any (x ∷ xs) y = Some y

-- a list without its first element, and without its last
abbrev pub tail_of : {X : Type 0} → List X → List X
tail_of [] = []
tail_of (x ∷ xs) = xs

-- whether a node's first child is gone; a leaf has none
abbrev pub FirstGone : {A : Type 0} → NodeMap A → View A → Type 0
FirstGone node_at (leaf parent items) = Unit {0}
FirstGone node_at (internal parent first branches) = node_at first ≡ None

-- a list without its last element
abbrev pub init_of : {X : Type 0} → List X → List X
init_of [] = []
init_of (x ∷ []) = []
init_of (x ∷ (y ∷ ys)) = x ∷ init_of (y ∷ ys)

-- the last child of an internal node
abbrev pub last_id : {A : Type 0} → ℕ → List (A × ℕ) → ℕ
last_id first [] = first
last_id first (b ∷ bs) = last_id b.1 bs

-- whether a node's last child is gone; a leaf has none
abbrev pub LastGone : {A : Type 0} → NodeMap A → View A → Type 0
LastGone node_at (leaf parent items) = Unit {0}
LastGone node_at (internal parent first branches) = node_at (last_id first branches) ≡ None

module _ (A : Type 0) where
  -- what is left of a subtree is in the store: each node with an item left under it, with what is left of it
  abbrev pub HoldsRest : NodeMap A → (height : ℕ) → Option ℕ → Subtree A height → Type 0
  HoldsRest node_at zero parent t = node_at t.0 ≡ if_any t.1 (leaf parent t.1)
  HoldsRest node_at (suc height) parent t =
      (node_at t.0 ≡ if_any (items_under A (suc height) t) (view_at A (suc height) parent t))
      × HoldsRest node_at height (Some t.0) t.1
      × AllByRecursion (λ b. HoldsRest node_at height (Some t.0) b.1) t.2

  -- one of a list of children has a property, and the others are left in the store
  abbrev pub DownIn : NodeMap A → (height : ℕ) → Option ℕ → (Subtree A height → Type 0) → List (A × Subtree A height) → Type 0
  DownIn node_at height parent Down [] = ⊥
  DownIn node_at height parent Down (b ∷ bs) =
      (Down b.1 × AllByRecursion (λ b. HoldsRest node_at height parent b.1) bs)
      ⊎ (HoldsRest node_at height parent b.1 × DownIn node_at height parent Down bs)

  -- like `HoldsRest`, but the nodes from the subtree's root down to node `id` are there, also if nothing is left in them
  abbrev pub HoldsDownTo : NodeMap A → (id height : ℕ) → Option ℕ → Subtree A height → Type 0
  HoldsDownTo node_at id zero parent t = (t.0 ≡ id) × (node_at t.0 ≡ Some (leaf parent t.1))
  HoldsDownTo node_at id (suc height) parent t =
      (node_at t.0 ≡ Some (view_at A (suc height) parent t))
      × (((t.0 ≡ id) × HoldsRest node_at height (Some t.0) t.1 × AllByRecursion (λ b. HoldsRest node_at height (Some t.0) b.1) t.2)
      ⊎ ((HoldsDownTo node_at id height (Some t.0) t.1 × AllByRecursion (λ b. HoldsRest node_at height (Some t.0) b.1) t.2)
      ⊎ (HoldsRest node_at height (Some t.0) t.1 × DownIn node_at height (Some t.0) (HoldsDownTo node_at id height (Some t.0)) t.2)))

  -- node `id` is the subtree's root, its first child, and so on
  abbrev pub OnFirst : (id height : ℕ) → Subtree A height → Type 0
  OnFirst id zero t = t.0 ≡ id
  OnFirst id (suc height) t = (t.0 ≡ id) ⊎ OnFirst id height t.1

  -- and an item is left under it
  abbrev pub AtFirst : (id height : ℕ) → Subtree A height → Type 0
  AtFirst id zero t = (t.0 ≡ id) × HasAny t.1
  AtFirst id (suc height) t = HasAny (items_under A (suc height) t) × ((t.0 ≡ id) ⊎ AtFirst id height t.1)

  -- the last child
  abbrev pub last_of : (height : ℕ) → Subtree A height → List (A × Subtree A height) → Subtree A height
  last_of height first [] = first
  last_of height first (b ∷ bs) = last_of height b.1 bs

  -- node `id` is the subtree's root, its last child, and so on
  abbrev pub OnLast : (id height : ℕ) → Subtree A height → Type 0
  OnLast id zero t = t.0 ≡ id
  OnLast id (suc height) t = (t.0 ≡ id) ⊎ OnLast id height (last_of height t.1 t.2)

  -- and an item is left under it
  abbrev pub AtLast : (id height : ℕ) → Subtree A height → Type 0
  AtLast id zero t = (t.0 ≡ id) × HasAny t.1
  AtLast id (suc height) t =
      HasAny (items_under A (suc height) t) × ((t.0 ≡ id) ⊎ AtLast id height (last_of height t.1 t.2))

  -- without the first item, where the first child is gone: that child goes too
  abbrev pub first_gone : (height : ℕ) → ℕ → Subtree A height → List (A × Subtree A height) → Subtree A (suc height)
  first_gone height id first [] = (id, first, [])
  first_gone height id first (b ∷ bs) = (id, b.1, bs)

  -- without the first item, which is that of `rest` if an item is left under the first child
  abbrev pub first_out : (height : ℕ) → List A → Subtree A height → Subtree A (suc height) → Subtree A (suc height)
  first_out height (x ∷ xs) rest t = (t.0, rest, t.2)
  first_out height [] rest t = first_gone height t.0 t.1 t.2

  abbrev pub without_first : (height : ℕ) → Subtree A height → Subtree A height
  without_first zero t = (t.0, tail_of t.1)
  without_first (suc height) t = first_out height (items_under A height t.1) (without_first height t.1) t

  -- without the last item: it is that of the last child, and without one the item before that child, which goes too
  abbrev pub last_end : (height : ℕ) → A → List A → Subtree A height → List (A × Subtree A height)
  last_end height x [] rest = []
  last_end height x (y ∷ ys) rest = (x, rest) ∷ []

  abbrev pub later_out : (height : ℕ) → (Subtree A height → Subtree A height) → A × Subtree A height → List (A × Subtree A height)
      → List (A × Subtree A height)
  later_out height drop b [] = last_end height b.0 (items_under A height b.1) (drop b.1)
  later_out height drop b (d ∷ ds) = b ∷ later_out height drop d ds

  abbrev pub last_out : (height : ℕ) → (Subtree A height → Subtree A height) → ℕ → Subtree A height → List (A × Subtree A height)
      → Subtree A (suc height)
  last_out height drop id first [] = (id, drop first, [])
  last_out height drop id first (b ∷ bs) = (id, first, later_out height drop b bs)

  abbrev pub without_last : (height : ℕ) → Subtree A height → Subtree A height
  without_last zero t = (t.0, init_of t.1)
  without_last (suc height) t = last_out height (without_last height) t.0 t.1 t.2

  -- the numbers of a subtree are different
  abbrev pub AreApart : (height : ℕ) → Subtree A height → Type 0
  AreApart height t = (n : ℕ) → times_under A height n t ≤ 1

-- node `id` is there with no item, and without the one child that it may have
pub record IsSpent {A : Type 0} (node_at : NodeMap A) (id : ℕ) : Type 0 where
  pub node : View A
  pub here : node_at id ≡ Some node
  pub none : items_of node ≡ []
  pub bare : FirstGone node_at node

-- the nodes are what is left of a tree
pub record IsRest (A : Type 0) (node_at : NodeMap A) (height : ℕ) (t : Subtree A height) : Type 0 where
  pub holds : HoldsRest A node_at height None t
  pub apart : AreApart A height t
  pub only : (n : ℕ) → times_under A height n t ≡ 0 → node_at n ≡ None
